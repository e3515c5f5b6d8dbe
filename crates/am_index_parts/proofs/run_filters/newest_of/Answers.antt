use Rattle.std.proofs.Common.{◌≡◌, ◌-◌, ℕ, Option, Some, None, take, sym, ◌∙◌, ap, arith}
use Rattle.std.proofs.lemmas.Bool.{cond-true, cond-false}
use Rattle.am_index_parts.specs.RunFilters.{first_some, newest_of}
use Rattle.am_index_parts.proofs.Filters.{newest_by, newest_below}
use Rattle.am_index_parts.proofs.run_filters.newest_of.Goals as goal

pub returns-then-may_have : goal.returns-then-may_have
returns-then-may_have c =
    let x = c.index-runs-at.result in
    let n = c.args.number in
    let older = newest_of (take (c.loop-at.at - 1) c.args.runs.now) n in
    let here : newest_by x n ≡ Some x.part = cond-true _ (Some x.part) None (sym c.may_have.ensures ∙
    c.if-may_have.true)
    in
    sym (c.loop-at.invariant ∙
    newest_below n c.args.runs.now c.loop-at.at x c.loop-at-test.true c.loop-at.auto.at c.index-runs-at.is ∙
    ap (λ (o : Option ℕ). first_some o older) here)

pub loop-at-preserved : goal.loop-at-preserved
loop-at-preserved c =
    let x = c.index-runs-at.result in
    let n = c.args.number in
    let older = newest_of (take (c.loop-at.at - 1) c.args.runs.now) n in
    let none : newest_by x n ≡ None = cond-false _ (Some x.part) None (sym c.may_have.ensures ∙ c.if-may_have.false) in
    c.loop-at.invariant ∙
    newest_below n c.args.runs.now c.loop-at.at x c.loop-at-test.true c.loop-at.auto.at c.index-runs-at.is ∙
    ap (λ (o : Option ℕ). first_some o older) none

pub returns : goal.returns
returns c =
    let none : c.loop-at.at ≡ 0 = omega (arith, c.loop-at-test.false) in
    sym (c.loop-at.invariant ∙ ap (λ (i : ℕ). newest_of (take i c.args.runs.now) c.args.number) none)
