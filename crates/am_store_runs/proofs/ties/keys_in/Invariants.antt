use Rattle.std.proofs.Common.{◌≡◌, take}
use Rattle.am_store_runs.specs.Cuts.{keys_of}
use Rattle.am_store_runs.proofs.ties.keys_in.Given as goal

abbrev pub invariant-loop-at : goal.invariant-loop-at
invariant-loop-at g l = l.keys.items ≡ keys_of (take l.at (g.S.RecordSource.records l.source))
