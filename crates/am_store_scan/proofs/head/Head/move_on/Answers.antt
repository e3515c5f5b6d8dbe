use Rattle.std.proofs.Common.{◌+◌, ◌<◌, ◌≤◌, ℕ, List, [], IsTrue, length, sym, ap, ◌∙◌, subst, arith}
use Rattle.std.proofs.lemmas.List.{get_or_default}
use Rattle.am_record.specs.Interval.{within}
use Rattle.am_record.specs.KeyFront.{key_front}
use Rattle.am_record.specs.OrderedKey.{OrderedKey, key_least}
use Rattle.am_store_scan.specs.Heads.{Stand, HasReadSome}
use Rattle.am_store_scan.proofs.HeadMoves.{ends_here, goes_on_here, same_old, none_of_old}
use Rattle.am_store_scan.proofs.head.Head.move_on.Goals as goal

pub returns-then-self-len-clause-ended : goal.returns-then-self-len-clause-ended
returns-then-self-len-clause-ended g c =
    let back = g.D.Direction.is_back in
    let es = c.args.parts.now.entries in
    let now = c.self.inside in
    let same_part = ap (λ (h : Stand). h.part) c.self.view_is ∙ c.look_ahead.ensures.part in
    let same_key = ap (λ (h : Stand). h.key) c.self.view_is ∙ c.look_ahead.ensures.key in
    let is_ready = subst (HasReadSome back es c.args.range) (sym c.self.view_is) c.look_ahead.ensures.ready in
    let past : length now.rows.items ≤ now.passed + 1 = omega (arith, c.if-self-len.true, c.len.ensures, now.rows.ok.0)
    in
    λ _. none_of_old back same_part same_key
    (ends_here back (λ p r. c.rows_follow.ensures.reads es p r c.requires.rising) c.args.range now.part now.rows.items
    now.passed now.is_all (ap (within c.args.range) same_key ∙ c.requires.inside) is_ready past)

pub returns-clause-moved : goal.returns-clause-moved
returns-clause-moved g c =
    let back = g.D.Direction.is_back in
    let es = c.args.parts.now.entries in
    let now = c.self.inside in
    let same_part = ap (λ (h : Stand). h.part) c.self.view_is ∙ c.look_ahead.ensures.part in
    let same_key = ap (λ (h : Stand). h.key) c.self.view_is ∙ c.look_ahead.ensures.key in
    let is_ready = subst (HasReadSome back es c.args.range) (sym c.self.view_is) c.look_ahead.ensures.ready in
    let more : now.passed + 1 < length now.rows.items = omega (
      arith,
      c.if-self-len.false,
      c.len.ensures,
      now.rows.ok.0,
    ) in
    λ _. same_old back same_part same_key
    (goes_on_here back (λ p r. c.rows_follow.ensures.reads es p r c.requires.rising) c.args.range now.part
    now.rows.items
    now.passed now.is_all (ap (within c.args.range) same_key ∙ c.requires.inside) is_ready more)

pub invariant_of-self : goal.invariant_of-self
invariant_of-self g c =
    let now = c.self.inside in
    let more : now.passed + 1 < length now.rows.items = omega (
      arith,
      c.if-self-len.false,
      c.len.ensures,
      now.rows.ok.0,
    ) in
    let row = c.index.ensures ∙ get_or_default now.rows.items (now.passed + 1) c.index.result.now (key_least, []) more
    in
    (more, c.self.invariant.1, c.front-self-inside.ensures ∙ ap (λ (r : OrderedKey × List ℕ). key_front r.0) row)

pub returns-then-self-len-clause-all : goal.returns-then-self-len-clause-all
returns-then-self-len-clause-all g c was =
    subst (λ (h : Stand). IsTrue h.is_all) (sym (c.look_ahead.ensures.same was)) was

pub returns-clause-all : goal.returns-clause-all
returns-clause-all g c was =
    subst (λ (h : Stand). IsTrue h.is_all) (sym (c.self.view_is ∙ c.look_ahead.ensures.same was)) was
