use Rattle.std.proofs.Common.{◌≡◌, ◌≤◌, ◌++◌, length, drop}
use Rattle.std.specs.List.{AllByRecursion}
use Rattle.am_index.specs.Content.{OnePlace}
use Rattle.am_index.specs.Rooms.{KeepRoom}
use Rattle.am_law_effect.specs.Operations.{updated, notes_of_updates}
use Rattle.am_store_operations.specs.Updates.{HasRoomAtPlace}
use Rattle.am_store_operations.proofs.puts.overwrite_all.Given as goal

abbrev pub invariant-loop-at : goal.invariant-loop-at
invariant-loop-at g l =
    let left = drop l.at l.updates in
    record {
      entries : updated left l.parts.entries ≡ updated l.updates l.fn.parts.entries;
      notes : notes_of_updates left ++ l.log.notes ≡ notes_of_updates l.updates ++ l.fn.log.notes;
      runs : l.parts.runs ≡ l.fn.parts.runs;
      marks : l.log.marks ≡ l.fn.log.marks;
      room : length left ≤ l.log.room;
      placed : AllByRecursion (HasRoomAtPlace l.parts.entries l.parts.roomy) left;
      one_place : OnePlace l.parts.entries;
      rooms : KeepRoom l.fn.parts.roomy l.parts.roomy l.parts.entries;
    }
