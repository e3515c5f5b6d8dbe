use Rattle.std.proofs.Common.{◌≡◌, take}
use Rattle.am_store_runs.proofs.Apart.{keys_by_orders}
use Rattle.am_store_runs.proofs.fronts.keys_with.Given as goal

abbrev pub invariant-loop-order : goal.invariant-loop-order
invariant-loop-order g l = l.keys.items ≡ keys_by_orders (g.S.RecordSource.records l.source) l.fronts
    (take l.order-index l.orders)
