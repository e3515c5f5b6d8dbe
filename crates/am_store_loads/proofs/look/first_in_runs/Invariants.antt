use Rattle.std.proofs.Common.{take}
use Rattle.am_store_loads.proofs.LeastLive.{NoneSeen}
use Rattle.am_store_loads.proofs.look.first_in_runs.Given as goal

abbrev pub invariant-loop-at : goal.invariant-loop-at
invariant-loop-at g l = NoneSeen l.parts.entries (take l.at (take l.count (g.S.RecordSource.records l.records)))
