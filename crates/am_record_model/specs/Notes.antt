-- Notes of what stood under keys before they were changed, the newest first.
use Rattle.std.specs.Prelude.{List, [], ◌∷◌, IsSome}
use Rattle.std.specs.FinMap.{get}
use Rattle.am_record_model.specs.declared.note.Note.{Note}
use Rattle.am_record_model.specs.Slots.{Cells, with_cell}

-- what stood under the note's key stands there again
abbrev pub undone : Note → Cells → Cells
undone n slots = with_cell slots n.key n.before

-- and so with all notes, the newest first
abbrev pub all_undone : List Note → Cells → Cells
all_undone [] slots = slots
all_undone (n ∷ notes) slots = all_undone notes (undone n slots)

-- where something stood something still does, so that no place has to be made
abbrev pub NoteHasPlace : Note → Cells → Type 0
NoteHasPlace n slots = IsSome n.before → IsSome (get slots n.key)

-- and so for each note when its turn comes
abbrev pub CanUndo : List Note → Cells → Type 0
CanUndo [] slots = Unit {0}
CanUndo (n ∷ notes) slots = NoteHasPlace n slots × CanUndo notes (undone n slots)
