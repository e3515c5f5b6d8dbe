use Rattle.std.proofs.Common.{rules, arith, List, ◌≡◌, Ok, Err, sym, ap, subst}
use Rattle.std.specs.Prelude.{nat_lt, IfOk, IfErr, length}
use Rattle.std.specs.List.{IsAllAdjacentAnswer}
use Rattle.std.specs.List.Sorted.{IsPermutation, IsNonDecreasingBy}
use Rattle.std.proofs.lemmas.List.Sorted.{answers_always, IsPermutation-trans, length_permutation}
use Rattle.std.proofs.lemmas.List.Sorted.{IsNonDecreasingBy-from_sort_by_key}
use Rattle.am_store_runs.specs.Cuts.{IsPieceFault}
use Rattle.am_store_runs.specs.RecordPlaces.{records_at, piece}
use Rattle.am_store_runs.specs.declared.record_order.Spot.{Spot}
use Rattle.am_store_runs.proofs.GroupOrders.{front}
use Rattle.am_store_runs.proofs.Orders.{order_by_front, named_long}
use Rattle.am_store_runs.proofs.Pieces.{fault_permuted}
use Rattle.am_store_runs.proofs.Spots.{spots_permuted, named_permuted, piece_long}
use Rattle.am_store_runs.proofs.record_order.order_of.Goals as goal

pub returns-then-is_sorted_by-clause-order : goal.returns-then-is_sorted_by-clause-order
returns-then-is_sorted_by-clause-order g c =
    let rs = g.S.RecordSource.records c.args.source.now in
    let spots = c.in_ok-spots.spots.items in
    let sorted = c.sort_unstable_by_key.new.self.items in
    order_by_front c.fronts_follow_keys.ensures rs sorted c.is_sorted_by.result
    (spots_permuted rs spots sorted c.sort_unstable_by_key.ensures.permutation c.in_ok-spots.ensures.within)
    (omega (
      arith,
      c.requires.some,
      length_permutation spots sorted c.sort_unstable_by_key.ensures.permutation,
      named_long rs spots,
      ap (λ l. length l) c.in_ok-spots.ensures.all,
      piece_long rs c.args.from c.args.to (omega (arith, c.requires.some)) c.requires.within,
    ))
    (subst (λ (l : List Spot). IsAllAdjacentAnswer (λ (x : Spot) (y : Spot) r. r ≡ nat_lt x.front y.front) l
    c.is_sorted_by.result) c.deref.ensures.value
    (c.is_sorted_by.ensures.cases (λ (x : Spot) (y : Spot). nat_lt x.front y.front)
    (answers_always _ _ _ (λ f a r g h. search rules)))) c.if-is_sorted_by.true

pub returns-then-is_sorted_by-clause-same : goal.returns-then-is_sorted_by-clause-same
returns-then-is_sorted_by-clause-same g c =
    let rs = g.S.RecordSource.records c.args.source.now in
    named_permuted rs (piece rs c.args.from c.args.to) c.in_ok-spots.spots.items c.sort_unstable_by_key.new.self.items
    c.sort_unstable_by_key.ensures.permutation c.in_ok-spots.ensures.all

pub settled-requires-clause-some : goal.settled-requires-clause-some
settled-requires-clause-some g c =
    let rs = g.S.RecordSource.records c.args.source.now in
    let spots = c.in_ok-spots.spots.items in
    omega (
      arith,
      c.requires.some,
      ap (λ (l : List Spot). length l) c.deref-2.ensures.value,
      length_permutation spots c.sort_unstable_by_key.new.self.items c.sort_unstable_by_key.ensures.permutation,
      named_long rs spots,
      ap (λ l. length l) c.in_ok-spots.ensures.all,
      piece_long rs c.args.from c.args.to (omega (arith, c.requires.some)) c.requires.within,
    )

pub settled-requires-clause-spots : goal.settled-requires-clause-spots
settled-requires-clause-spots g c =
    let rs = g.S.RecordSource.records c.args.source.now in
    spots_permuted rs c.in_ok-spots.spots.items c.deref-2.result.now
    (subst (IsPermutation c.in_ok-spots.spots.items) (sym c.deref-2.ensures.value)
    c.sort_unstable_by_key.ensures.permutation) c.in_ok-spots.ensures.within

pub settled-requires-clause-sorted : goal.settled-requires-clause-sorted
settled-requires-clause-sorted g c =
    subst (IsNonDecreasingBy front) (sym c.deref-2.ensures.value)
    (IsNonDecreasingBy-from_sort_by_key front c.sort_unstable_by_key.new.self.items
    c.sort_unstable_by_key.ensures.sorted (λ a r q k. search rules))

pub returns-clause-same : goal.returns-clause-same
returns-clause-same g c =
    let rs = g.S.RecordSource.records c.args.source.now in
    let spots = c.in_ok-spots.spots.items in
    let sorted = c.deref-2.result.now in
    let some = piece rs c.args.from c.args.to in
    let moved : IsPermutation spots sorted = subst (IsPermutation spots) (sym c.deref-2.ensures.value)
    c.sort_unstable_by_key.ensures.permutation in
    elim c.settled.result as (λ r. IfOk r (λ order. IsPermutation sorted order.items) →
    IfOk r (λ order. IsPermutation some (records_at rs order.items))) [
      | Ok order ↦ λ same. named_permuted rs some spots order.items
          (IsPermutation-trans spots sorted order.items moved same) c.in_ok-spots.ensures.all
      | Err e ↦ λ same. tt
    ] c.settled.ensures.same

pub returns-clause-fault : goal.returns-clause-fault
returns-clause-fault g c =
    let rs = g.S.RecordSource.records c.args.source.now in
    let spots = c.in_ok-spots.spots.items in
    let sorted = c.deref-2.result.now in
    let some = piece rs c.args.from c.args.to in
    let moved : IsPermutation spots sorted = subst (IsPermutation spots) (sym c.deref-2.ensures.value)
    c.sort_unstable_by_key.ensures.permutation in
    elim c.settled.result as (λ r. IfErr r (IsPieceFault (records_at rs sorted)) → IfErr r (IsPieceFault some)) [
      | Ok order ↦ λ h. tt
      | Err fault ↦ λ h. fault_permuted some (records_at rs sorted) fault
          (named_permuted rs some spots sorted moved c.in_ok-spots.ensures.all) h
    ] c.settled.ensures.fault
