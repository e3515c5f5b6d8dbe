use Rattle.std.proofs.Common.{ℕ, refl, sym, ◌∙◌, ⊎_elim, subst, true, arith}
use Rattle.am_index_parts.specs.RunFilters.{LivesInRun}
use Rattle.am_index_parts.proofs.Filters.{named_below, named_in_none, not_said}
use Rattle.am_index_parts.proofs.KeyLooks.{found_live, not_found, said_of_none}
use Rattle.am_index_parts.proofs.key_look.live_in_these.Goals as goal

pub returns-then-is_some-clause-live : goal.returns-then-is_some-clause-live
returns-then-is_some-clause-live g c =
    found_live c.requires.sound _ c.args.key c.look-slot.ensures.found c.live_at-found.result
    c.live_at-found.ensures.live

pub loop-at-preserved-then-may_have : goal.loop-at-preserved-then-may_have
loop-at-preserved-then-may_have g c = λ run lives it.
    let es = g.I.PartIndex.entries c.args.index.now in
    let part = c.index-runs-at.result.part in
    ⊎_elim
    (λ here. absurd (said_of_none c.live_at-found.result (LivesInRun es c.args.key part → ⊥)
    (sym c.is_some.ensures ∙ c.if-is_some.false)
    (not_found es part c.args.key c.look-slot.result.0 c.look-slot.ensures.found c.live_at-found.result
    c.live_at-found.ensures.none) (subst (λ (p : ℕ). LivesInRun es c.args.key p) (sym here.0) lives)))
    (λ before. before)
    (named_below true run c.args.number c.args.runs.now c.loop-at.at c.index-runs-at.result c.loop-at-test.true
    c.loop-at.auto.at c.index-runs-at.is (c.loop-at.invariant run lives it))

pub loop-at-preserved : goal.loop-at-preserved
loop-at-preserved g c = λ run lives it.
    ⊎_elim (λ here. absurd (not_said true run c.args.number c.index-runs-at.result refl
    (sym c.may_have.ensures ∙ c.if-may_have.false) here)) (λ before. before)
    (named_below true run c.args.number c.args.runs.now c.loop-at.at c.index-runs-at.result c.loop-at-test.true
    c.loop-at.auto.at c.index-runs-at.is (c.loop-at.invariant run lives it))

pub returns-clause-absent : goal.returns-clause-absent
returns-clause-absent g c = λ run lives it.
    named_in_none true run c.args.number c.args.runs.now c.loop-at.at (omega (arith, c.loop-at-test.false))
    (c.loop-at.invariant run lives it)
