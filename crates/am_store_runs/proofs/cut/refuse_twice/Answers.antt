use Rattle.std.proofs.Common.{List, Some, None, sym, ◌∙◌, subst, arith}
use Rattle.std.proofs.lemmas.Bool.{eqb-true}
use Rattle.std.specs.List.Sorted.{IsPermutation}
use Rattle.am_record.specs.OrderedKey.{OrderedKey}
use Rattle.am_store_runs.specs.Cuts.{keys_of, records_of}
use Rattle.am_store_runs.specs.Fronts.{fronts_in, with_fronts, AreShared}
use Rattle.am_store_runs.specs.RecordPlaces.{runs_named}
use Rattle.am_store_runs.proofs.Apart.{found_in_orders, apart_in_orders}
use Rattle.am_store_runs.proofs.Orders.{runs_long}
use Rattle.am_store_runs.proofs.Pieces.{few_apart}
use Rattle.am_store_runs.proofs.cut.refuse_twice.Goals as goal

pub returns-then-orders-lt2-clause-apart : goal.returns-then-orders-lt2-clause-apart
returns-then-orders-lt2-clause-apart g c =
    let rs = g.S.RecordSource.records c.args.source.now in
    few_apart c.requires.runs.0 rs (runs_named rs c.args.orders.now)
    (omega (arith, c.if-orders-lt2.true, runs_long rs c.args.orders.now)) c.requires.runs.1

pub returns-then-is_empty-clause-apart : goal.returns-then-is_empty-clause-apart
returns-then-is_empty-clause-apart g c =
    apart_in_orders (g.S.RecordSource.records c.args.source.now) c.args.orders.now c.in_ok-shared.shared.items
    c.requires.orders c.requires.runs c.in_ok-shared.ensures
    (omega (arith, eqb-true _ _ (sym c.is_empty.ensures ∙ c.if-is_empty.true)))

pub returns-in-Some-clause-fault : goal.returns-in-Some-clause-fault
returns-in-Some-clause-fault g c =
    let rs = g.S.RecordSource.records c.args.source.now in
    let orders = c.args.orders.now in
    let shared = c.deref.result.now in
    let sorted = c.deref-2.result.now in
    let are : AreShared (fronts_in orders) shared =
    subst (AreShared (fronts_in orders)) (sym c.deref.ensures.value) c.in_ok-shared.ensures in
    let moved : IsPermutation (with_fronts shared (keys_of (records_of (runs_named rs orders)))) sorted =
    subst (λ (ks : List OrderedKey). IsPermutation ks sorted) c.in_ok-keys.ensures
    (subst (IsPermutation c.in_ok-keys.keys.items) (sym c.deref-2.ensures.value)
    c.sort_unstable.ensures.permutation) in
    found_in_orders rs orders shared sorted (Some c.in-Some.key) c.requires.orders c.requires.runs are moved
    c.in-Some.ensures

pub returns-clause-apart : goal.returns-clause-apart
returns-clause-apart g c =
    let rs = g.S.RecordSource.records c.args.source.now in
    let orders = c.args.orders.now in
    let shared = c.deref.result.now in
    let sorted = c.deref-2.result.now in
    let are : AreShared (fronts_in orders) shared =
    subst (AreShared (fronts_in orders)) (sym c.deref.ensures.value) c.in_ok-shared.ensures in
    let moved : IsPermutation (with_fronts shared (keys_of (records_of (runs_named rs orders)))) sorted =
    subst (λ (ks : List OrderedKey). IsPermutation ks sorted) c.in_ok-keys.ensures
    (subst (IsPermutation c.in_ok-keys.keys.items) (sym c.deref-2.ensures.value)
    c.sort_unstable.ensures.permutation) in
    found_in_orders rs orders shared sorted None c.requires.orders c.requires.runs are moved c.in-None.ensures
