use Rattle.std.proofs.Common.{ℕ, suc, ◌≡◌, ◌+◌, ◌-◌, ◌<◌, ◌≤◌, List, length, get_or, take, nat_lt, sym, subst}
use Rattle.std.proofs.Common.{⊎_elim, arith}
use Rattle.std.proofs.lemmas.Bool.{cases_Bool, ltb-true, ltb-false}
use Rattle.std.specs.List.{AllByRecursion}
use Rattle.am_index_btree.proofs.GroupedFronts.{below_to, above_from}
use Rattle.am_index_btree.proofs.separators.pass_groups.Goals as goal
use Rattle.am_index_btree.proofs.separators.pass_groups.Goals.{then-fronts-end, else-fronts-end}

pub group-preserved : goal.group-preserved
group-preserved c =
    let fs = c.args.fronts.now in let f : ℕ = c.args.front in let held = c.group.invariant in
    let end : ℕ = c.group.end in let within : end ≤ length fs = c.group-test.true in
    elim c.if-fronts-end.branch [
      | then-fronts-end w ↦
          let whole : suc (end - 1) ≡ end = omega (arith, held.passed) in
          rw w.passed-is (record {
            passed = omega arith;
            near = omega (arith, within);
            below = subst (λ (n : ℕ). AllByRecursion (λ other. other < f) (take n fs)) whole
                (below_to f fs c.requires.rising (end - 1) 0 (omega (arith, within, whole))
                (omega (arith, w.if-fronts-end.true)));
            stopped = λ less. absurd (omega (arith, less));
          })
      | else-fronts-end w ↦
          let passed : ℕ = c.group.passed in
          let here : f ≤ get_or fs (end - 1) 0 = omega (arith, w.if-fronts-end.false) in
          rw w.passed-is (record {
            passed = omega (arith, held.passed);
            near = omega (arith, within);
            below = held.below;
            stopped = λ less. either f fs end passed here held.passed held.stopped less;
          })
    ]
  where
    either : (f : ℕ) (fs : List ℕ) (end passed : ℕ) → f ≤ get_or fs (end - 1) 0 → passed + 8 ≤ end →
        (passed + 8 < end → f ≤ get_or fs (passed + 7) 0) → passed + 8 < end + 8 → f ≤ get_or fs (passed + 7) 0
    either f fs end passed here le stopped less =
        ⊎_elim (λ e. stopped (ltb-true (passed + 8) end e))
        (λ e. let same : passed + 7 ≡ end - 1 = omega (arith, le, ltb-false (passed + 8) end e) in
        subst (λ (n : ℕ). f ≤ get_or fs n 0) (sym same) here) (cases_Bool (nat_lt (passed + 8) end))

pub returns-clause-above : goal.returns-clause-above
returns-clause-above c =
    let fs = c.args.fronts.now in let held = c.group.invariant in
    let out : length fs < c.group.end = c.group-test.false in
    above_from c.args.front fs c.requires.rising c.group.passed
    (λ within. held.stopped (omega (arith, out, within)))
