use Rattle.std.proofs.Common.{◌≡◌, ◌++◌, map, take}
use Rattle.am_store_runs.specs.declared.record_order.Spot.{Spot}
use Rattle.am_store_runs.specs.Fronts.{fronts_in}
use Rattle.am_store_runs.proofs.fronts.fronts_in.Given as goal

abbrev pub invariant-loop-order : goal.invariant-loop-order
invariant-loop-order l = l.fronts.items ≡ fronts_in (take l.order-index l.orders)

abbrev pub invariant-loop-spot : goal.invariant-loop-spot
invariant-loop-spot l = l.fronts.items ≡ l.initial.fronts.items ++
    map (λ (s : Spot). s.front) (take l.spot-index l.spot-items)
