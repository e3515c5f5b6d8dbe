use Rattle.std.proofs.Common.{◌≤◌, drop, length, ◌-◌}
use Rattle.am_store_runs.specs.RecordPlaces.{AreOrders, runs_named}
use Rattle.am_store_runs.proofs.Pieces.{IsCutting}
use Rattle.am_store_runs.proofs.cut.orders_of.Given as goal

abbrev pub invariant-loop-from : goal.invariant-loop-from
invariant-loop-from g l = record {
  within : l.from ≤ length (g.S.RecordSource.records l.source);
  orders : AreOrders (g.S.RecordSource.records l.source) l.orders.items;
  cutting : IsCutting l.n (g.S.RecordSource.records l.source)
      (runs_named (g.S.RecordSource.records l.source) l.orders.items) (drop l.from (g.S.RecordSource.records l.source));
}

abbrev pub decreases-loop-from : goal.decreases-loop-from
decreases-loop-from g l = length (g.S.RecordSource.records l.source) - l.from
