use Rattle.std.proofs.Common.{◌≡◌}
use Rattle.am_index.specs.Rooms.{KeepRoom}
use Rattle.am_index_parts.specs.Partitions.{AreWellFormed}
use Rattle.am_store_merge.specs.LockHolders.{holder_of}
use Rattle.am_store_merge.proofs.CleanSteps.{IsCleaned}
use Rattle.am_store_merge.proofs.clean.clean_step.Given as goal

abbrev pub invariant-loop-cleaned : goal.invariant-loop-cleaned
invariant-loop-cleaned g l = record {
  way : IsCleaned l.initial.parts.entries (holder_of l.locks) l.range l.parts.entries l.from l.cleaned;
  sound : AreWellFormed l.initial.parts.entries;
  runs : l.parts.runs ≡ l.initial.parts.runs;
  rooms : KeepRoom l.initial.parts.roomy l.parts.roomy l.parts.entries;
}
