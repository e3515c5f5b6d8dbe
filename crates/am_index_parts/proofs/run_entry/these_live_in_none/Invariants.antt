use Rattle.std.proofs.Common.{◌≤◌, ◌-◌, take, drop}
use Rattle.std.specs.List.{AllByRecursion}
use Rattle.am_index_parts.specs.Partitions.{LivesInNoRun}
use Rattle.am_index_parts.proofs.run_entry.these_live_in_none.Given as goal

abbrev pub invariant-loop-at : goal.invariant-loop-at
invariant-loop-at g l = (l.from ≤ l.at) × AllByRecursion (λ r. LivesInNoRun (g.I.PartIndex.entries l.index) r.0)
    (take (l.at - l.from) (drop l.from (g.S.RecordSource.records l.records)))
