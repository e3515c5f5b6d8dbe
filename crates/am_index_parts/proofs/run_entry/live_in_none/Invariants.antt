use Rattle.std.proofs.Common.{◌≤◌, ◌-◌, take, length}
use Rattle.std.specs.List.{AllByRecursion}
use Rattle.am_index_parts.specs.Partitions.{LivesInNoRun}
use Rattle.am_index_parts.proofs.run_entry.live_in_none.Given as goal

abbrev pub invariant-ask : goal.invariant-ask
invariant-ask g l = record {
  within : l.from ≤ length (g.S.RecordSource.records l.records);
  dead : AllByRecursion (λ r. LivesInNoRun (g.I.PartIndex.entries l.index) r.0)
      (take l.from (g.S.RecordSource.records l.records));
}

abbrev pub decreases-ask : goal.decreases-ask
decreases-ask g l = length (g.S.RecordSource.records l.records) - l.from
