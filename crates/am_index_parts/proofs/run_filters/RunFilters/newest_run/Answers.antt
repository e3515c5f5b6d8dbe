use Rattle.std.proofs.Common.{◌≡◌, ◌-◌, ℕ, Option, None, List, take, sym, ◌∙◌, ap, arith}
use Rattle.std.proofs.lemmas.Bool.{cond-true, cond-false}
use Rattle.am_index_parts.specs.declared.run_filters.RunFilter.{RunFilter}
use Rattle.am_index_parts.specs.RunFilters.{first_some, newest_of, newest_run}
use Rattle.am_index_parts.proofs.Filters.{newest_in, newest_run_below, first_is_some, first_is_none}
use Rattle.am_index_parts.proofs.run_filters.RunFilters.newest_run.Goals as goal

pub returns-then-is_some : goal.returns-then-is_some
returns-then-is_some c =
    let gs = c.args.self.now.generations.items in
    let x = c.index-generation.result.now in
    let n = c.number-number.result in
    let found = c.newest_of-newest.result in
    let older = newest_run (take (c.loop-at.at - 1) gs) n in
    let here : newest_in x n ≡ found =
    cond-true _ (newest_of x.runs.items n) None (sym c.may_have.ensures ∙ c.if-may_have.true) ∙
    sym (c.newest_of-newest.ensures ∙ ap (λ (l : List RunFilter). newest_of l n) c.deref.ensures.value) in
    sym (ap (newest_run gs) (sym c.number-number.ensures) ∙ c.loop-at.invariant ∙
    newest_run_below n gs c.loop-at.at x c.loop-at-test.true (omega (arith, c.len-at.ensures, c.loop-at.auto.at))
    c.index-generation.ensures ∙ ap (λ (o : Option ℕ). first_some o older) here ∙
    first_is_some found older (sym c.is_some.ensures ∙ c.if-is_some.true))

pub loop-at-preserved-else-is_some : goal.loop-at-preserved-else-is_some
loop-at-preserved-else-is_some c =
    let gs = c.args.self.now.generations.items in
    let x = c.index-generation.result.now in
    let n = c.number-number.result in
    let found = c.newest_of-newest.result in
    let older = newest_run (take (c.loop-at.at - 1) gs) n in
    let here : newest_in x n ≡ found =
    cond-true _ (newest_of x.runs.items n) None (sym c.may_have.ensures ∙ c.if-may_have.true) ∙
    sym (c.newest_of-newest.ensures ∙ ap (λ (l : List RunFilter). newest_of l n) c.deref.ensures.value) in
    c.loop-at.invariant ∙
    newest_run_below n gs c.loop-at.at x c.loop-at-test.true (omega (arith, c.len-at.ensures, c.loop-at.auto.at))
    c.index-generation.ensures ∙ ap (λ (o : Option ℕ). first_some o older) here ∙
    first_is_none found older (sym c.is_some.ensures ∙ c.if-is_some.false)

pub loop-at-preserved : goal.loop-at-preserved
loop-at-preserved c =
    let gs = c.args.self.now.generations.items in
    let x = c.index-generation.result.now in
    let n = c.number-number.result in
    let older = newest_run (take (c.loop-at.at - 1) gs) n in
    let none : newest_in x n ≡ None =
    cond-false _ (newest_of x.runs.items n) None (sym c.may_have.ensures ∙ c.if-may_have.false) in
    c.loop-at.invariant ∙
    newest_run_below n gs c.loop-at.at x c.loop-at-test.true (omega (arith, c.len-at.ensures, c.loop-at.auto.at))
    c.index-generation.ensures ∙ ap (λ (o : Option ℕ). first_some o older) none

pub returns : goal.returns
returns c =
    let gs = c.args.self.now.generations.items in
    let none : c.loop-at.at ≡ 0 = omega (arith, c.loop-at-test.false) in
    sym (ap (newest_run gs) (sym c.number-number.ensures) ∙ c.loop-at.invariant ∙
    ap (λ (i : ℕ). newest_run (take i gs) c.number-number.result) none)
