use Rattle.std.proofs.Common.{length}
use Rattle.am_replica_records.proofs.Rows.{AreLoaded}
use Rattle.am_replica_records.proofs.loading.load_records.Given as goal

-- the records before those that are left are there
abbrev pub invariant-loop-rest : goal.invariant-loop-rest
invariant-loop-rest g l = record {
  idle : g.M.Machine.idle l.machine;
  loaded : AreLoaded l.records l.rest (g.M.Machine.map l.machine);
}

abbrev pub decreases-loop-rest : goal.decreases-loop-rest
decreases-loop-rest g l = length l.rest
