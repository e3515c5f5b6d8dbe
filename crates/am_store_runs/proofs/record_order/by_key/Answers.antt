use Rattle.std.proofs.Common.{List, ◌≡◌, Some, sym, ap, ◌∙◌, subst}
use Rattle.std.specs.Prelude.{MatchOption}
use Rattle.std.specs.List.Sorted.{IsPermutation}
use Rattle.am_store_runs.specs.Cuts.{NoneTwice, IsLeastTwice}
use Rattle.am_store_runs.specs.RecordPlaces.{IsOrder, keys_among, spots_among}
use Rattle.am_store_runs.specs.declared.record_order.Spot.{Spot}
use Rattle.am_store_runs.proofs.Orders.{keys_sorted, spots_moved, found_of, order_by_key}
use Rattle.am_store_runs.proofs.record_order.by_key.Goals as goal

pub first_tie-requires : goal.first_tie-requires
first_tie-requires g c =
    let rs = g.S.RecordSource.records c.args.source.now in
    let keyed = c.in_ok-keyed.keyed.items in
    let are : c.deref-2.result.now ≡ keys_among keyed = c.deref-2.ensures.value ∙ c.in_ok-keys.ensures ∙
    ap keys_among c.deref.ensures.value in
    keys_sorted rs c.args.spots.now keyed c.in_ok-keyed.ensures c.deref-2.result.now are

pub returns-in-Some-clause-fault : goal.returns-in-Some-clause-fault
returns-in-Some-clause-fault g c =
    let rs = g.S.RecordSource.records c.args.source.now in
    let keyed = c.in_ok-keyed.keyed.items in
    let are : c.deref-2.result.now ≡ keys_among keyed = c.deref-2.ensures.value ∙ c.in_ok-keys.ensures ∙
    ap keys_among c.deref.ensures.value in
    let keys = c.deref-2.result.now in
    found_of rs c.args.spots.now keyed c.in_ok-keyed.ensures keys are (Some c.in-Some.key)
    (subst (λ found. MatchOption found (NoneTwice keys) (IsLeastTwice keys)) c.in-Some.is c.first_tie.ensures)

pub returns-clause-order : goal.returns-clause-order
returns-clause-order g c =
    let rs = g.S.RecordSource.records c.args.source.now in
    let keyed = c.in_ok-keyed.keyed.items in
    let are : c.deref-2.result.now ≡ keys_among keyed = c.deref-2.ensures.value ∙ c.in_ok-keys.ensures ∙
    ap keys_among c.deref.ensures.value in
    let keys = c.deref-2.result.now in
    let spots : c.in_ok-spots_among.field-0.items ≡ spots_among keyed = c.in_ok-spots_among.ensures ∙
    ap spots_among c.deref-3.ensures.value in
    subst (IsOrder rs) (sym spots)
    (order_by_key rs c.args.spots.now keyed c.in_ok-keyed.ensures keys are c.requires.spots c.requires.some
    (subst (λ found. MatchOption found (NoneTwice keys) (IsLeastTwice keys)) c.in_default.is c.first_tie.ensures))

pub returns-clause-same : goal.returns-clause-same
returns-clause-same g c =
    let keyed = c.in_ok-keyed.keyed.items in
    let spots : c.in_ok-spots_among.field-0.items ≡ spots_among keyed = c.in_ok-spots_among.ensures ∙
    ap spots_among c.deref-3.ensures.value in
    subst (λ (l : List Spot). IsPermutation c.args.spots.now l) (sym spots)
    (spots_moved (g.S.RecordSource.records c.args.source.now) c.args.spots.now keyed c.in_ok-keyed.ensures)
