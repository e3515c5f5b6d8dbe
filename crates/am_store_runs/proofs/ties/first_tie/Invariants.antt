use Rattle.std.proofs.Common.{length}
use Rattle.am_store_runs.proofs.Twice.{IsLeftOf}
use Rattle.am_store_runs.proofs.ties.first_tie.Given as goal

abbrev pub invariant-loop-left : goal.invariant-loop-left
invariant-loop-left l = IsLeftOf l.keys l.left

abbrev pub decreases-loop-left : goal.decreases-loop-left
decreases-loop-left l = length l.left
