use Rattle.std.proofs.Common.{List, ℕ, Ok, Err, sym, subst}
use Rattle.std.specs.Prelude.{IfOk}
use Rattle.std.specs.List.Sorted.{IsPermutation, IsNonDecreasing}
use Rattle.std.proofs.lemmas.List.Sorted.{IsNonDecreasingBy-from_sort}
use Rattle.am_store_runs.specs.Fronts.{fronts_in, AreShared}
use Rattle.am_store_runs.proofs.Repeats.{shared_permuted}
use Rattle.am_store_runs.proofs.fronts.shared_fronts.Goals as goal

pub repeated-requires : goal.repeated-requires
repeated-requires c =
    subst IsNonDecreasing (sym c.deref.ensures.value)
    (IsNonDecreasingBy-from_sort (λ n. n) c.sort.new.self.items c.in_ok-sort.ensures.sorted)

pub returns : goal.returns
returns c =
    let fronts = fronts_in c.args.orders.now in
    let sorted = c.deref.result.now in
    let moved : IsPermutation fronts sorted =
    subst (λ (l : List ℕ). IsPermutation l sorted) c.in_ok-fronts.ensures
    (subst (IsPermutation c.in_ok-fronts.fronts.items) (sym c.deref.ensures.value) c.in_ok-sort.ensures.permutation) in
    elim c.repeated.result as (λ r. IfOk r (λ shared. AreShared sorted shared.items) →
    IfOk r (λ shared. AreShared fronts shared.items)) [
      | Ok shared ↦ λ are. shared_permuted fronts sorted shared.items moved are
      | Err e ↦ λ are. are
    ] c.repeated.ensures
