use Rattle.std.proofs.Common.{length}
use Rattle.am_c_store.proofs.Turns.{IsLoading}
use Rattle.am_c_store.proofs.runs.load_in_turn.Given as goal

abbrev pub invariant-loop-run : goal.invariant-loop-run
invariant-loop-run g l = IsLoading l.tx l.bringing l.fn.runs l.fn.store.value l.runs l.records l.store.value

abbrev pub decreases-loop-run : goal.decreases-loop-run
decreases-loop-run g l = length l.runs
