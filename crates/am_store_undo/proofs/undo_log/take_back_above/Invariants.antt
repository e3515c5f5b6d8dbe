use Rattle.std.proofs.Common.{◌≡◌, length, reverse, drop}
use Rattle.am_index.specs.Rooms.{KeepRoom}
use Rattle.am_store_undo.specs.Notes.{NotesFit}
use Rattle.am_store_undo.proofs.Above.{Above}
use Rattle.am_store_undo.proofs.undo_log.take_back_above.Given as goal

abbrev pub invariant-loop-notes : goal.invariant-loop-notes
invariant-loop-notes g l = record {
  above : Above l.fn.parts.entries l.fn.notes.items l.fn.mark l.notes.items l.parts.entries;
  runs : l.parts.runs ≡ l.fn.parts.runs;
  rooms : KeepRoom l.fn.parts.roomy l.parts.roomy l.parts.entries;
  fits : NotesFit l.parts.roomy (reverse (drop l.fn.mark l.notes.items));
  capacity : l.notes.capacity ≡ l.fn.notes.capacity;
}

abbrev pub decreases-loop-notes : goal.decreases-loop-notes
decreases-loop-notes g l = length l.notes.items
