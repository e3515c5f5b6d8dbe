use Rattle.std.proofs.Common.{length}
use Rattle.am_store_runs.proofs.Repeats.{IsSharing}
use Rattle.am_store_runs.proofs.fronts.repeated.Given as goal

abbrev pub invariant-loop-left : goal.invariant-loop-left
invariant-loop-left l = IsSharing l.sorted l.left l.repeated.items

abbrev pub decreases-loop-left : goal.decreases-loop-left
decreases-loop-left l = length l.left
