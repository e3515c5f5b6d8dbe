-- Room for values in the final partition, where entries of runs settle.
use Rattle.std.proofs.Common.{◌≡◌, ℕ, true, List, length, Option, Some, None, ⊎_elim, refl}
use Rattle.std.proofs.lemmas.Bool.{cases_Bool}
use Rattle.am_record.specs.OrderedKey.{OrderedKey}
use Rattle.am_record.specs.EntryOrder.{Place}
use Rattle.am_record.specs.declared.entry.Entry.{Entry}
use Rattle.am_index.specs.Entries.{Slot, find}
use Rattle.am_index.specs.Rooms.{HasRoom, HaveRoom, outgrows, needs_room}
use Rattle.am_index.proofs.Rooms.{room_over}

-- a value that has no room at a place outgrows what stands there
pub needs_where_none : (es : List Entry) (roomy : List Place) (part : ℕ) (key : OrderedKey) (value : List ℕ) →
    HaveRoom es roomy → ¬ HasRoom roomy part key (length value) → needs_room (find es part key) value ≡ true
needs_where_none es roomy part key value have none = by_slot (find es part key) refl
  where
    by_slot : (o : Option Slot) → find es part key ≡ o → needs_room o value ≡ true
    by_slot None h = refl
    by_slot (Some slot) h = ⊎_elim (λ yes. yes)
        (λ no. absurd (none (room_over es roomy part key slot value have h no))) (cases_Bool (outgrows value slot.0))
