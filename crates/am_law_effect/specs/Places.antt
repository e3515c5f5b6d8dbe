-- Lists of entries, place by place.
use Rattle.std.specs.Prelude.{ℕ, List, map, Option, Some, None, is_some, if◌then◌else◌}
use Rattle.am_record.specs.OrderedKey.{OrderedKey}
use Rattle.am_record.specs.EntryOrder.{Place}
use Rattle.am_record.specs.declared.entry.Entry.{Entry}
use Rattle.am_index.specs.Entries.{Slot, slot_of, find, insert_entry, set_entry}

-- what stands at the place
abbrev pub look : List Entry → Place → Option Slot
look es a = find es a.0 a.1

-- the list with the entry, in place of one that stands at its place
abbrev pub put : Entry → List Entry → List Entry
put x es = if is_some (find es x.part x.key) then set_entry es x.part x.key x.value x.is_ghost else insert_entry es x

-- the entry with this slot, itself where there is none
abbrev pub with_slot : Entry → Option Slot → Entry
with_slot e None = e
with_slot e (Some s) = record e { value = s.0; is_ghost = s.1 }

-- the list with another slot at each place, by the partition, the key and what stands there
abbrev pub reslotted : (ℕ → OrderedKey → Option Slot → Option Slot) → List Entry → List Entry
reslotted f es = map (λ (e : Entry). with_slot e (f e.part e.key (Some (slot_of e)))) es
