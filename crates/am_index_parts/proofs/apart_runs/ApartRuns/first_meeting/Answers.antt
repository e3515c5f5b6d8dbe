use Rattle.std.proofs.Common.{◌≡◌, ◌<◌, ◌≤◌, ℕ, List, Option, true, false, length, get_or, take, drop, sym, ap, ◌∙◌}
use Rattle.std.proofs.Common.{subst, arith}
use Rattle.std.specs.Prelude.{IfNone}
use Rattle.am_record.specs.OrderedKey.{OrderedKey}
use Rattle.am_record.specs.Interval.{meets}
use Rattle.am_index_parts.specs.declared.apart_runs.ApartRun.{ApartRun}
use Rattle.am_index_parts.specs.ApartRuns.{NoneMeets}
use Rattle.am_index_parts.proofs.ApartRuns.{EndBefore, EndLater, none_meets}
use Rattle.am_index_parts.proofs.apart_runs.ApartRuns.first_meeting.Goals as goal

pub returns-then-meets-clause-met : goal.returns-then-meets-clause-met
returns-then-meets-clause-met c =
    let range = c.args.range in
    let at = c.first_from-at.result in
    let found = c.in_ok-run.ensures.lookup.3 in
    subst (λ (l : List ApartRun). (at < length l) × ((d : ApartRun) → meets (get_or l at d).range range ≡ true))
    c.deref.ensures.value (
      found.0,
      λ d. ap (λ (a : ApartRun). meets a.range range) (sym (found.1 d)) ∙ (sym c.meets.ensures ∙ c.if-meets.true),
    )

pub returns-else-meets-clause-none : goal.returns-else-meets-clause-none
returns-else-meets-clause-none c =
    let range = c.args.range in
    let rs : List ApartRun = c.args.self.now.list.items in
    let at = c.first_from-at.result in
    let found = c.in_ok-run.ensures.lookup.3 in
    none_meets rs range at c.requires
    (subst (λ (k : OrderedKey). EndBefore k (take at rs)) c.lo.ensures.value c.first_from-at.ensures.before)
    (subst (λ (k : OrderedKey). EndLater k (drop at rs)) c.lo.ensures.value c.first_from-at.ensures.from)
    (λ d lt. subst (λ (l : List ApartRun). meets (get_or l at d).range range ≡ false) c.deref.ensures.value
    (ap (λ (a : ApartRun). meets a.range range) (sym (found.1 d)) ∙ (sym c.meets.ensures ∙ c.if-meets.false)))

pub returns-in_err-run-clause-none : goal.returns-in_err-run-clause-none
returns-in_err-run-clause-none c =
    let range = c.args.range in
    let rs : List ApartRun = c.args.self.now.list.items in
    let at = c.first_from-at.result in
    let ended : length rs ≤ at =
    subst (λ (l : List ApartRun). length l ≤ at) c.deref.ensures.value c.in_err-run.ensures.lookup.3 in
    subst (λ (o : Option ℕ). IfNone o (NoneMeets rs range)) (sym c.from_residual.ensures)
    (none_meets rs range at c.requires
    (subst (λ (k : OrderedKey). EndBefore k (take at rs)) c.lo.ensures.value c.first_from-at.ensures.before)
    (subst (λ (k : OrderedKey). EndLater k (drop at rs)) c.lo.ensures.value c.first_from-at.ensures.from)
    (λ d lt. absurd (omega (arith, lt, ended))))
