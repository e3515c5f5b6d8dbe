-- What is seen of an undo log, and its code, by which a proof tells two of them apart.
use Rattle.std.specs.Prelude.{◌≡◌, ◌⊎◌, ℕ, List, Bool, refl}
use Rattle.std.proofs.Common.{inl, inr}
use Rattle.std.specs.Coded.{Coded, code_by, coded×, coded⊎, coded_ℕ, coded_bool, coded_list}
use Rattle.am_record.specs.OrderedKey.{OrderedKey, key_code}
use Rattle.am_store_undo.specs.declared.note.Note.{Note}
use Rattle.am_store_undo.specs.declared.note.Note.TheVariants.{New, Before, RunMade}

-- the notes and the marks, the newest first, and how many more notes are sure to fit; each mark is the number of notes
-- at it
pub record Log : Type 0 where
  pub notes : List Note
  pub marks : List ℕ
  pub room : ℕ

-- a note is stored as the fields of its variant
abbrev pub NoteFields : Type 0
NoteFields = OrderedKey ⊎ (((ℕ × OrderedKey) × (List ℕ × Bool)) ⊎ ℕ)

abbrev pub fields_of_note : Note → NoteFields
fields_of_note (New key) = inl key
fields_of_note (Before part key value is_ghost) = inr (inl ((part, key), (value, is_ghost)))
fields_of_note (RunMade run) = inr (inr run)

abbrev pub note_of_fields : NoteFields → Note
note_of_fields (inl key) = New key
note_of_fields (inr (inl b)) = Before b.0.0 b.0.1 b.1.0 b.1.1
note_of_fields (inr (inr run)) = RunMade run

abbrev pub note_of_fields_of_note : (n : Note) → note_of_fields (fields_of_note n) ≡ n
note_of_fields_of_note (New key) = refl
note_of_fields_of_note (Before part key value is_ghost) = refl
note_of_fields_of_note (RunMade run) = refl

abbrev pub note_code : Coded Note
note_code = code_by NoteFields (coded⊎ key_code (coded⊎ (coded× (coded× coded_ℕ key_code)
    (coded× (coded_list coded_ℕ) coded_bool)) coded_ℕ)) fields_of_note note_of_fields note_of_fields_of_note

abbrev pub log_code : Coded Log
log_code = code_by (List Note × (List ℕ × ℕ)) (coded× (coded_list note_code)
    (coded× (coded_list coded_ℕ) coded_ℕ)) (λ l. (l.notes, (l.marks, l.room)))
    (λ p. record { notes = p.0; marks = p.1.0; room = p.1.1 }) (λ _. refl)
