-- Undo notes: what stands at each place when notes are taken back, the newest first.
use Rattle.std.specs.Prelude.{◌≡◌, ℕ, ◌==◌, length, List, [], ◌∷◌, true, false, Option, Some, None, IsSome}
use Rattle.std.specs.Prelude.{if◌then◌else◌}
use Rattle.std.specs.List.{AllByRecursion}
use Rattle.am_record.specs.OrderedKey.{OrderedKey}
use Rattle.am_record.specs.EntryOrder.{Place}
use Rattle.am_record.specs.declared.entry.Entry.{Entry}
use Rattle.am_index.specs.Entries.{Slot, find, IsRising}
use Rattle.am_index.specs.Edits.{same_place}
use Rattle.am_index.specs.Rooms.{HasRoom}
use Rattle.am_store_undo.specs.declared.note.Note.{Note}
use Rattle.am_store_undo.specs.declared.note.Note.TheVariants.{New, Before, RunMade}

-- what stands under each partition and key
abbrev pub Slots : Type 0
Slots = ℕ → OrderedKey → Option Slot

-- marked as deleted, with the value
abbrev pub ghosted : Option Slot → Option Slot
ghosted None = None
ghosted (Some s) = Some (s.0, true)

-- what stands at a place when the note is taken back
abbrev pub back_one : Note → ℕ → OrderedKey → Option Slot → Option Slot
back_one (New k) part key s = if same_place part key 0 k then ghosted s else s
back_one (Before p k value is_ghost) part key s = if same_place part key p k then Some (value, is_ghost) else s
back_one (RunMade p) part key s = if part == p then ghosted s else s

-- and when all are, which stand with the newest first
abbrev pub back_all : List Note → ℕ → OrderedKey → Option Slot → Option Slot
back_all [] part key s = s
back_all (n ∷ notes) part key s = back_all notes part key (back_one n part key s)

-- the entries before and after the notes are taken back
pub record TakesBack (notes : List Note) (es es' : List Entry) : Type 0 where
  pub rising : IsRising es → IsRising es'
  pub at : (part : ℕ) (key : OrderedKey) → find es' part key ≡ back_all notes part key (find es part key)

-- the same at every place
abbrev pub back_at : Note → Slots → Slots
back_at n slots = λ part key. back_one n part key (slots part key)

-- the noted entry is still there
abbrev pub Stands : Note → Slots → Type 0
Stands (New k) slots = IsSome (slots 0 k)
Stands (Before p k value is_ghost) slots = IsSome (slots p k)
Stands (RunMade p) slots = Unit {0}

-- no key is live in two partitions
pub record OneLive (slots : Slots) : Type 0 where
  pub one : (key : OrderedKey) (part part' : ℕ) (value value' : List ℕ) → slots part key ≡ Some (value, false) →
      slots part' key ≡ Some (value', false) → part ≡ part'

-- each noted entry is still there when its turn comes, and in no step a key becomes live twice
abbrev pub CanTakeBack : List Note → Slots → Type 0
CanTakeBack [] slots = Unit {0}
CanTakeBack (n ∷ notes) slots = record {
  stands : Stands n slots;
  one : OneLive (back_at n slots);
  older : CanTakeBack notes (back_at n slots);
}

-- the noted value has room at its place
abbrev pub NoteFits : List Place → Note → Type 0
NoteFits roomy (Before p k value is_ghost) = HasRoom roomy p k (length value)
NoteFits roomy _ = Unit {0}

-- each of the noted values has
abbrev pub NotesFit : List Place → List Note → Type 0
NotesFit roomy notes = AllByRecursion (NoteFits roomy) notes
