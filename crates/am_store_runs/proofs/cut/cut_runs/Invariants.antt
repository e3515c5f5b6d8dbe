use Rattle.std.proofs.Common.{◌++◌, length}
use Rattle.am_store_runs.specs.Cuts.{IsCut}
use Rattle.am_store_runs.proofs.cut.cut_runs.Given as goal

abbrev pub invariant-loop-run : goal.invariant-loop-run
invariant-loop-run l = IsCut l.n l.records (l.runs.items ++ l.cut)

abbrev pub decreases-loop-run : goal.decreases-loop-run
decreases-loop-run l = length l.cut
