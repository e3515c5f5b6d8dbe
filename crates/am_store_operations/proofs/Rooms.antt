-- Room for values.
use Rattle.std.proofs.Common.{◌≡◌, ℕ, List, ◌||◌, length, true, false, Some, ap, ◌∙◌}
use Rattle.std.proofs.lemmas.Bool.{or_left, true_from_ne_false}
use Rattle.am_record.specs.OrderedKey.{OrderedKey}
use Rattle.am_record.specs.EntryOrder.{Place}
use Rattle.am_record.specs.declared.entry.Entry.{Entry}
use Rattle.am_index.specs.Entries.{Slot, find}
use Rattle.am_index.specs.Rooms.{HasRoom, HaveRoom, outgrows}
use Rattle.am_index.proofs.Rooms.{room_over}
use Rattle.am_index_parts.specs.Partitions.{IsLiveEntry}
use Rattle.am_store_undo.specs.declared.note.Note.{Note}
use Rattle.am_store_operations.specs.Memory.{adds_fifth_note}

-- the slot of a live entry
stands_live : (es : List Entry) (key : OrderedKey) (e : Entry) → IsLiveEntry es key e → find es e.part e.key ≡
    Some (e.value, false)
stands_live es key e live = ap (find es e.part) live.key_is ∙ live.there.there

-- a live value has the room that it takes
pub live_room : (es : List Entry) (roomy : List Place) (key : OrderedKey) (e : Entry) → HaveRoom es roomy →
    IsLiveEntry es key e → HasRoom roomy e.part e.key (length e.value)
live_room es roomy key e have live = have.values e.part e.key (e.value, false) (stands_live es key e live)

-- a value that has no room over another outgrows it
pub over_wants : (es : List Entry) (roomy : List Place) (part : ℕ) (key : OrderedKey) (value : List ℕ) (slot : Slot)
    (notes : List Note) → HaveRoom es roomy → find es part key ≡ Some slot → ¬ HasRoom roomy part key (length value) →
    (outgrows value slot.0 || adds_fifth_note notes) ≡ true
over_wants es roomy part key value slot notes have there none = or_left (outgrows value slot.0) (adds_fifth_note notes)
    (true_from_ne_false (outgrows value slot.0)
    (λ fits. none (room_over es roomy part key slot value have there fits)))
