use Rattle.std.proofs.Common.{◌≡◌, ℕ, List, sym, ◌∙◌, ⊎_elim, subst, true, arith}
use Rattle.am_index_parts.specs.declared.run_filters.Generation.{Generation}
use Rattle.am_index_parts.specs.declared.run_filters.RunFilter.{RunFilter}
use Rattle.am_index_parts.specs.RunFilters.{LivesInRun, IsNamed, MayBeIn}
use Rattle.am_index_parts.proofs.Filters.{may_be_below, may_be_in_none, not_said_in}
use Rattle.am_index_parts.proofs.KeyLooks.{said_of_none}
use Rattle.am_index_parts.proofs.key_look.live_by_filters.Goals as goal

pub loop-at-preserved-then-may_have : goal.loop-at-preserved-then-may_have
loop-at-preserved-then-may_have g c = λ run lives it.
    let es = g.I.PartIndex.entries c.args.index.now in
    let number = c.number-number.result in
    ⊎_elim
    (λ here. absurd (said_of_none c.live_in_these-found.result.0
    ((run' : ℕ) → LivesInRun es c.args.key run' → IsNamed true c.deref.result.now run' number → ⊥)
    (sym c.is_some.ensures ∙ c.if-is_some.false) c.live_in_these-found.ensures.absent run lives
    (subst (λ (l : List RunFilter). IsNamed true l run number) (sym c.deref.ensures.value) here.named)))
    (λ before. before)
    (may_be_below true run number c.generations-generations.result.now c.loop-at.at c.index-generations-at.result
    c.loop-at-test.true c.loop-at.auto.at c.index-generations-at.is (c.loop-at.invariant run lives it))

pub loop-at-preserved : goal.loop-at-preserved
loop-at-preserved g c = λ run lives it.
    ⊎_elim (λ here. absurd (not_said_in run c.number-number.result c.index-generations-at.result
    (sym c.may_have.ensures ∙ c.if-may_have.false) here)) (λ before. before)
    (may_be_below true run c.number-number.result c.generations-generations.result.now c.loop-at.at
    c.index-generations-at.result c.loop-at-test.true c.loop-at.auto.at c.index-generations-at.is
    (c.loop-at.invariant run lives it))

pub returns-clause-absent : goal.returns-clause-absent
returns-clause-absent g c = λ run lives it.
    let none : c.loop-at.at ≡ 0 = omega (arith, c.loop-at-test.false) in
    let gs : List Generation = c.args.filters.now.generations.items in
    may_be_in_none true run c.number-number.result c.generations-generations.result.now c.loop-at.at none
    (c.loop-at.invariant run lives
    (subst (λ (l : List Generation). MayBeIn true l run c.number-number.result) (sym c.generations-generations.ensures)
    (subst (λ (n : ℕ). MayBeIn true gs run n) (sym c.number-number.ensures) it)))
