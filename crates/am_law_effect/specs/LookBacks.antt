-- What an abort leaves, in the words of the rule: each place that stood before the first write as it was then, and else
-- a ghost.
use Rattle.std.specs.Prelude.{ℕ, List, [], ◌∷◌, ◌++◌, cond, Option, Some, None}
use Rattle.am_record.specs.OrderedKey.{OrderedKey}
use Rattle.am_record.specs.EntryOrder.{Place}
use Rattle.am_record.specs.declared.entry.Entry.{Entry}
use Rattle.am_index.specs.Entries.{Slot}
use Rattle.am_store_undo.specs.Notes.{ghosted}
use Rattle.am_law_effect.specs.Places.{look}
use Rattle.am_law_effect.specs.History.{Moment, wrote_by, wrote}

-- the list before the transaction's first write to the key, and all lists since, the oldest first; none where it didn't
-- write it
abbrev pub lists_since : ℕ → OrderedKey → List Moment → List Entry → List (List Entry)
lists_since t q [] now = []
lists_since t q (m ∷ past) now = cond (wrote t q past) (lists_since t q past m.1 ++ now ∷ [])
    (cond (wrote_by t q m.0) (m.1 ∷ now ∷ []) [])

abbrev pub or_slot : Option Slot → Option Slot → Option Slot
or_slot None other = other
or_slot (Some s) other = Some s

-- what stands at the place in the first list that has it
abbrev pub first_at : Place → List (List Entry) → Option Slot
first_at a [] = None
first_at a (es ∷ later) = or_slot (look es a) (first_at a later)

-- as it was before the first write, or else a ghost with the value that it was made with
abbrev pub looked_back : Place → List (List Entry) → Option Slot
looked_back a [] = None
looked_back a (es ∷ later) = or_slot (look es a) (ghosted (first_at a later))
