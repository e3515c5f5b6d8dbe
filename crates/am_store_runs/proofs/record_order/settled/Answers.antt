use Rattle.std.proofs.Common.{rules, arith, sym, ap, ◌∙◌, subst, refl, List, ◌≡◌, take, drop, get_or}
use Rattle.std.proofs.lemmas.List.Sums.{prefix_len-le-length}
use Rattle.std.specs.Prelude.{nat_eq}
use Rattle.am_store_runs.specs.Cuts.{IsPieceFault}
use Rattle.am_store_runs.specs.RecordPlaces.{IsGroupAdded, records_at}
use Rattle.am_store_runs.specs.declared.record_order.Spot.{Spot}
use Rattle.am_store_runs.proofs.Groups.{alike}
use Rattle.am_store_runs.proofs.GroupOrders.{front, IsSettling, settling_begins, group_settled, settled_order}
use Rattle.am_store_runs.proofs.GroupOrders.{fault_of_group}
use Rattle.am_store_runs.proofs.record_order.settled.Goals as goal

pub loop-left-init : goal.loop-left-init
loop-left-init g c =
    let rs = g.S.RecordSource.records c.args.source.now in
    let spots = c.args.spots.now in
    subst (λ (l : List Spot). IsSettling rs spots l spots) (sym c.in_ok-settled.ensures.items)
    (settling_begins rs spots c.requires.spots c.requires.sorted)

pub split_at-requires : goal.split_at-requires
split_at-requires g c =
    let left = c.loop-left.left.now in
    let d : Spot = record { front = 0; place = 0 } in
    let first = (get_or left 0 d).front in
    let count : c.count_alike.result ≡ alike front first left = c.count_alike.ensures in
    omega (arith, count, prefix_len-le-length (λ (s : Spot). nat_eq s.front first) left)

pub returns-in_err-add_group-clause-fault : goal.returns-in_err-add_group-clause-fault
returns-in_err-add_group-clause-fault g c =
    let rs = g.S.RecordSource.records c.args.source.now in
    let fault = c.in_err-add_group.field-0.0 in
    let is : IsPieceFault (records_at rs c.args.spots.now) fault =
    fault_of_group c.count_alike.result fault c.loop-left.invariant
    (subst (λ (l : List Spot). IsPieceFault (records_at rs l) fault) c.split_at.ensures.front
    c.in_err-add_group.ensures.fault) in
    search (rules, is)

pub loop-left-preserved : goal.loop-left-preserved
loop-left-preserved g c =
    let rs = g.S.RecordSource.records c.args.source.now in
    let left = c.loop-left.left.now in
    let done = c.loop-left.settled.items in
    let after = c.add_group.new.settled.items in
    let d : Spot = record { front = 0; place = 0 } in
    let first = (get_or left 0 d).front in
    let count : c.count_alike.result ≡ alike front first left = c.count_alike.ensures in
    let group : c.split_at.result.0.now ≡ take (alike front first left) left = c.split_at.ensures.front
    ∙ ap (λ k. take k left) count in
    let others : c.split_at.result.1.now ≡ drop (alike front first left) left = c.split_at.ensures.back
    ∙ ap (λ k. drop k left) count in
    let added : IsGroupAdded rs done (take (alike front first left) left) after =
    subst (λ (l : List Spot). IsGroupAdded rs done l after) group c.in_ok-add_group.ensures.added in
    subst (λ (l : List Spot). IsSettling rs c.args.spots.now after l) (sym others)
    (group_settled c.fronts_follow_keys.ensures rs first d c.loop-left.invariant c.in-len1-up.len_at_least refl added)

pub returns-clause-order : goal.returns-clause-order
returns-clause-order g c =
    settled_order c.loop-left.left.now c.loop-left.invariant c.in_default.len_below c.requires.some
