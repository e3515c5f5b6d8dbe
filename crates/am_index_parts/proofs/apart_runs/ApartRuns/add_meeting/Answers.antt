use Rattle.std.proofs.Common.{List, take, drop, sym, ap, ◌∙◌, subst, arith}
use Rattle.am_record.specs.OrderedKey.{OrderedKey}
use Rattle.am_record.specs.Interval.{meets}
use Rattle.std.proofs.lemmas.List.{get_or_default}
use Rattle.am_index_parts.specs.declared.apart_runs.ApartRun.{ApartRun}
use Rattle.am_index_parts.proofs.ApartRuns.{EndBefore, EndLater}
use Rattle.am_index_parts.proofs.MeetingRuns.{none_met_yet, one_more_met, all_met}
use Rattle.am_index_parts.proofs.apart_runs.ApartRuns.add_meeting.Goals as goal

pub loop-at-init : goal.loop-at-init
loop-at-init c =
    let rs : List ApartRun = c.args.self.now.list.items in
    let at = c.first_from-at.result in
    none_met_yet rs c.args.range c.args.parts.now.items at
    (subst (λ (k : OrderedKey). EndBefore k (take at rs)) c.lo.ensures.value c.first_from-at.ensures.before)
    (subst (λ (k : OrderedKey). EndLater k (drop at rs)) c.lo.ensures.value c.first_from-at.ensures.from)

pub loop-at-preserved : goal.loop-at-preserved
loop-at-preserved c =
    one_more_met c.args.self.now.list.items c.args.range c.args.parts.now.items c.loop-at.parts.items
    c.push.new.self.items c.loop-at.at c.index-in-loop-at.result.now (omega (arith, c.loop-at-test.true, c.len.ensures))
    c.index-in-loop-at.ensures c.in_ok-push.ensures.items c.loop-at.invariant

pub returns-else-meets-clause-added : goal.returns-else-meets-clause-added
returns-else-meets-clause-added c =
    let rs : List ApartRun = c.args.self.now.list.items in
    let at = c.loop-at.at in
    all_met rs c.args.range c.args.parts.now.items c.loop-at.parts.items at c.requires
    (λ d lt. ap (λ (a : ApartRun). meets a.range c.args.range)
    (sym (c.index.ensures ∙ get_or_default rs at _ d lt)) ∙ sym c.meets.ensures ∙ c.if-meets.false)
    c.loop-at.invariant

pub returns-after-loop-at-clause-added : goal.returns-after-loop-at-clause-added
returns-after-loop-at-clause-added c =
    all_met c.args.self.now.list.items c.args.range c.args.parts.now.items c.loop-at.parts.items c.loop-at.at
    c.requires (λ d lt. absurd (omega (arith, lt, c.loop-at-test.false, c.len.ensures))) c.loop-at.invariant
