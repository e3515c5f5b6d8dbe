use Rattle.std.proofs.Common.{◌≡◌}
use Rattle.am_index.specs.Rooms.{KeepRoom}
use Rattle.am_store_undo.proofs.Run.{Buries, work}
use Rattle.am_store_undo.proofs.undo_log.bury_run.Given as goal

abbrev pub invariant-loop-next : goal.invariant-loop-next
invariant-loop-next g l = record {
  buries : Buries l.fn.parts.entries l.parts.entries l.run l.next;
  runs : l.parts.runs ≡ l.fn.parts.runs;
  rooms : KeepRoom l.fn.parts.roomy l.parts.roomy l.parts.entries;
}

abbrev pub decreases-loop-next : goal.decreases-loop-next
decreases-loop-next g l = work l.fn.parts.entries l.next
