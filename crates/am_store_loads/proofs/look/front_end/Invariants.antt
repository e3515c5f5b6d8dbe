use Rattle.std.proofs.Common.{◌≤◌, ◌-◌, length}
use Rattle.am_store_loads.proofs.look.front_end.Given as goal

abbrev pub invariant-loop-at : goal.invariant-loop-at
invariant-loop-at g l = record {
  from : l.from ≤ l.at;
  step : 1 ≤ l.step;
}

abbrev pub decreases-loop-at : goal.decreases-loop-at
decreases-loop-at g l = length (g.S.RecordSource.records l.records) - l.at
