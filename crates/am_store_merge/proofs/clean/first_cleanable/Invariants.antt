use Rattle.am_store_merge.specs.LockHolders.{holder_of}
use Rattle.am_store_merge.specs.Steps.{HasPassedNone}
use Rattle.am_store_merge.proofs.CleanSteps.{ahead_of}
use Rattle.am_store_merge.proofs.clean.first_cleanable.Given as goal

abbrev pub invariant-loop-entry : goal.invariant-loop-entry
invariant-loop-entry g l = HasPassedNone l.parts.entries (holder_of l.locks) l.range l.from

abbrev pub decreases-loop-entry : goal.decreases-loop-entry
decreases-loop-entry g l = ahead_of l.parts.entries l.from
