-- Which operations may be refused for want of memory.
use Rattle.std.specs.Prelude.{ℕ, nat_le, length, List, Bool, true, false, ◌||◌, Option, Some, None}
use Rattle.std.specs.FinMap.{get}
use Rattle.am_record.specs.declared.step.Op.{Op}
use Rattle.am_record.specs.declared.step.Op.TheVariants.{Scan, ScanBack, Insert, Replace, Set, Delete}
use Rattle.am_record.specs.declared.step.Op.TheVariants.{DeleteRange, Load, Put, Mark}
use Rattle.am_index.specs.Entries.{Slot, find}
use Rattle.am_index.specs.Content.{content}
use Rattle.am_index.specs.Rooms.{outgrows, needs_room}
use Rattle.am_record.specs.declared.entry.Entry.{Entry}
use Rattle.am_store_undo.specs.declared.note.Note.{Note}

-- a note would be added to four or more: four stand in the log itself
abbrev pub adds_fifth_note : List Note → Bool
adds_fifth_note notes = nat_le 4 (length notes)

-- a mark would be added to two or more: two stand in the log itself
abbrev pub adds_third_mark : List ℕ → Bool
adds_third_mark marks = nat_le 2 (length marks)

-- the value may want more room than the live one in whose place it comes: it is longer than 16 bytes and than that one
abbrev pub outgrows_live : Option (List ℕ) → List ℕ → Bool
outgrows_live None value = false
outgrows_live (Some live) value = outgrows value live

-- the value of a Set may want room: over the live one, or else over what stands in the final partition
abbrev pub needs_room_set : Option (List ℕ) → Option Slot → List ℕ → Bool
needs_room_set None final value = needs_room final value
needs_room_set (Some live) final value = outgrows value live

-- whether the operation may want memory beside its lock's: what reads rows does, a Load and a Put; a Replace where its
-- value outgrows the live one, an Insert where the key has no entry in the final partition yet or where its value
-- outgrows that of the ghost there, a Set as a Replace where the key is live and else as an Insert, and each write for
-- its note, a Mark for its mark
abbrev pub wants_room : Op → List Entry → List Note → List ℕ → Bool
wants_room (Scan range max) es notes marks = true
wants_room (ScanBack range max) es notes marks = true
wants_room (Insert k v) es notes marks = needs_room (find es 0 k) v || adds_fifth_note notes
wants_room (Replace k v) es notes marks = outgrows_live (get (content es) k) v || adds_fifth_note notes
wants_room (Set k v) es notes marks = needs_room_set (get (content es) k) (find es 0 k) v || adds_fifth_note notes
wants_room (Delete k) es notes marks = adds_fifth_note notes
wants_room (DeleteRange range max) es notes marks = true
wants_room (Load records) es notes marks = true
wants_room (Put records) es notes marks = true
wants_room Mark es notes marks = adds_third_mark marks
wants_room op es notes marks = false
