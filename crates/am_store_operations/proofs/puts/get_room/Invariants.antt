use Rattle.std.proofs.Common.{◌≡◌, take}
use Rattle.std.specs.List.{AllByRecursion}
use Rattle.am_index.specs.Rooms.{KeepRoom}
use Rattle.am_store_operations.specs.Updates.{HasRoomAtPlace}
use Rattle.am_store_operations.proofs.puts.get_room.Given as goal

abbrev pub invariant-loop-at : goal.invariant-loop-at
invariant-loop-at g l =
    record {
      entries : l.parts.entries ≡ l.fn.parts.entries;
      runs : l.parts.runs ≡ l.fn.parts.runs;
      rooms : KeepRoom l.fn.parts.roomy l.parts.roomy l.parts.entries;
      done : AllByRecursion (HasRoomAtPlace l.parts.entries l.parts.roomy) (take l.at l.updates);
    }
