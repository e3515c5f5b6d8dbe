use Rattle.std.proofs.Common.{◌≡◌, ◌≤◌, ◌++◌, length, drop}
use Rattle.am_index.specs.Rooms.{KeepRoom}
use Rattle.am_law_effect.specs.Operations.{with_ghosts, notes_of_ghosts}
use Rattle.am_store_operations.proofs.delete_range.bury_all.Given as goal

abbrev pub invariant-loop-at : goal.invariant-loop-at
invariant-loop-at g l =
    let left = drop l.at l.rows in
    record {
      entries : with_ghosts left l.parts.entries ≡ with_ghosts l.rows l.fn.parts.entries;
      notes : notes_of_ghosts left l.parts.entries ++ l.log.notes ≡
          notes_of_ghosts l.rows l.fn.parts.entries ++ l.fn.log.notes;
      runs : l.parts.runs ≡ l.fn.parts.runs;
      marks : l.log.marks ≡ l.fn.log.marks;
      room : length left ≤ l.log.room;
      rooms : KeepRoom l.fn.parts.roomy l.parts.roomy l.parts.entries;
    }
