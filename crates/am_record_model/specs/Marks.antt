-- Marks in the notes of a body, each the number of notes at it, and the maps that they stand for. Notes and marks stand
-- with the newest first.
use Rattle.std.specs.Prelude.{ℕ, ◌≤◌, List, [], ◌∷◌, length, map, Bool}
use Rattle.std.specs.List.{AllByRecursion}
use Rattle.am_record.specs.Marks.{since}
use Rattle.am_record.specs.Plain.{Draft}
use Rattle.am_record_model.specs.declared.note.Note.{Note}
use Rattle.am_record_model.specs.Slots.{Cells, live}
use Rattle.am_record_model.specs.Notes.{all_undone, CanUndo}

-- the notes and the marks, and whether one more note is sure to fit
pub record DraftLog : Type 0 where
  pub notes : List Note
  pub marks : List ℕ
  pub has_room : Bool

-- what a body works on: the map, and for each mark the map that is there once the notes since the mark are taken back
abbrev pub draft : Cells → DraftLog → Draft
draft slots log = record {
  map = live slots;
  saved = map (λ mark. live (all_undone (since mark log.notes) slots)) log.marks;
}

-- no mark is above the newer ones, nor above `top`
abbrev pub AreFalling : ℕ → List ℕ → Type 0
AreFalling top [] = Unit {0}
AreFalling top (mark ∷ marks) = (mark ≤ top) × AreFalling mark marks

-- the marks are in order, and the notes since each of them can be taken back
pub record IsUndoable (slots : Cells) (log : DraftLog) : Type 0 where
  pub falling : AreFalling (length log.notes) log.marks
  pub can : AllByRecursion (λ mark. CanUndo (since mark log.notes) slots) log.marks
