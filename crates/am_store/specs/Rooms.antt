-- Room for the values that a store keeps, and for those that it may have to set back.
use Rattle.std.specs.Prelude.{ℕ, List}
use Rattle.am_index.specs.Rooms.{HaveRoom}
use Rattle.am_index_parts.specs.Partitions.{Partitions}
use Rattle.am_store_undo.specs.Notes.{NotesFit}
use Rattle.am_law_sound.specs.StoreState.{Active, in_table}

-- each value has its room, and so has each that an active transaction noted: setting it back takes no memory
pub record HaveTheirRoom (parts : Partitions) (active : List Active) : Type 0 where
  pub values : HaveRoom parts.entries parts.roomy
  pub noted : (t : ℕ) → NotesFit parts.roomy (in_table active t).notes
