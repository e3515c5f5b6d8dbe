-- What taking back a transaction's notes restores, whatever it and the others do before.
use Rattle.std.specs.Prelude.{◌≡◌, ℕ, ◌==◌, List, ◌∷◌, Bool, true, false, Option, Some, None, if◌then◌else◌}
use Rattle.std.specs.List.{AllByRecursion, list_any}
use Rattle.std.specs.FinMap.{get}
use Rattle.am_record.specs.OrderedKey.{OrderedKey}
use Rattle.am_record.specs.declared.entry.Entry.{Entry}
use Rattle.am_index.specs.Entries.{find, insert_entry, set_entry}
use Rattle.am_index.specs.Content.{content, OnePlace, live_value, HasOne}
use Rattle.am_store_undo.specs.declared.note.Note.{Note}
use Rattle.am_store_undo.specs.declared.note.Note.TheVariants.{New, Before, RunMade}
use Rattle.am_store_undo.specs.Notes.{Slots, back_all, TakesBack, CanTakeBack}

-- the note is of owned keys
abbrev pub IsOwned : (OrderedKey → Bool) → Slots → Note → Type 0
IsOwned owned slots (New k) = owned k ≡ true
IsOwned owned slots (Before p k value is_ghost) = owned k ≡ true
IsOwned owned slots (RunMade p) = (key : OrderedKey) → owned key ≡ false → slots p key ≡ None

abbrev pub makes_run : Note → ℕ → Bool
makes_run (RunMade run) part = part == run
makes_run _ part = false

-- whether one of the notes says that the run was made
abbrev pub is_noted_run : List Note → ℕ → Bool
is_noted_run notes part = list_any (λ n. makes_run n part) notes

-- the notes of a transaction are of keys that it owns, can be taken back, and give each of its keys the value before
pub record Undoes (es : List Entry) (notes : List Note) (owned : OrderedKey → Bool)
    (before : OrderedKey → Option (List ℕ)) : Type 0 where
  pub can : CanTakeBack notes (find es)
  pub owns : AllByRecursion (IsOwned owned (find es)) notes
  pub restores : (key : OrderedKey) → owned key ≡ true →
      HasOne (λ part. live_value (back_all notes part key (find es part key))) (before key)

-- nothing that the notes speak of is changed: the owned keys stand as they stood, and nothing is added to a noted run
pub record LeavesNoted (es es' : List Entry) (notes : List Note) (owned : OrderedKey → Bool) : Type 0 where
  pub same : (key : OrderedKey) → owned key ≡ true → (part : ℕ) → find es' part key ≡ find es part key
  pub runs : (part : ℕ) (key : OrderedKey) → is_noted_run notes part ≡ true → find es part key ≡ None →
      find es' part key ≡ None

-- a run was loaded, of owned keys
pub record LoadsRun (es es' : List Entry) (run : ℕ) (owned : OrderedKey → Bool) : Type 0 where
  pub fresh : (key : OrderedKey) → find es run key ≡ None
  pub elsewhere : (part : ℕ) (key : OrderedKey) → (part == run) ≡ false → find es' part key ≡ find es part key
  pub own : (key : OrderedKey) → owned key ≡ false → find es' run key ≡ None

-- what a transaction's own steps do to its notes
pub record OwnSteps (es : List Entry) (notes : List Note) (owned : OrderedKey → Bool)
    (before : OrderedKey → Option (List ℕ)) : Type 0 where
  -- more keys are locked, which nobody owned
  pub locked : (owned' : OrderedKey → Bool) → ((key : OrderedKey) → owned key ≡ true → owned' key ≡ true) →
      ((key : OrderedKey) → owned' key ≡ true → owned key ≡ false → before key ≡ get (content es) key) →
      Undoes es notes owned' before
  -- an entry is changed, an entry is made, a run is loaded
  pub changed : (part : ℕ) (key : OrderedKey) (old : List ℕ) (was_ghost : Bool) (value : List ℕ) (is_ghost : Bool) →
      owned key ≡ true →
      find es part key ≡ Some (old, was_ghost) → Undoes (set_entry es part key value is_ghost)
      (Before part key old was_ghost ∷ notes) owned before
  pub made : (x : Entry) → x.part ≡ 0 → owned x.key ≡ true → find es 0 x.key ≡ None →
      Undoes (insert_entry es x) (New x.key ∷ notes) owned before
  pub loaded : (es' : List Entry) (run : ℕ) → LoadsRun es es' run owned → Undoes es' (RunMade run ∷ notes) owned before

-- its notes were taken back, and this list is left
pub record NotesTakenBack (es es' : List Entry) (notes : List Note) (owned : OrderedKey → Bool)
    (before : OrderedKey → Option (List ℕ)) : Type 0 where
  pub one_place : OnePlace es'
  -- the owned keys have their values of before, and the others are untouched
  pub restored : (key : OrderedKey) →
      get (content es') key ≡ (if owned key then before key else get (content es) key)
  pub untouched : (key : OrderedKey) → owned key ≡ false → (part : ℕ) → find es' part key ≡ find es part key
  pub none_made : (part : ℕ) (key : OrderedKey) → find es part key ≡ None → find es' part key ≡ None
  -- nothing that the notes of another transaction speak of is changed, where the two own no key together
  pub leaves_others : (notes' : List Note) (owned' : OrderedKey → Bool) →
      ((key : OrderedKey) → owned' key ≡ true → owned key ≡ false) → LeavesNoted es es' notes' owned'

-- what a transaction's own steps, the steps of others and an abort do
pub record UndoLaws (es : List Entry) (notes : List Note) (owned : OrderedKey → Bool)
    (before : OrderedKey → Option (List ℕ)) : Type 0 where
  pub own : OwnSteps es notes owned before
  -- others change entries of other keys
  pub others : (es' : List Entry) (before' : OrderedKey → Option (List ℕ)) → OnePlace es' →
      LeavesNoted es es' notes owned →
      ((key : OrderedKey) → owned key ≡ true → before' key ≡ before key) → Undoes es' notes owned before'
  pub taken_back : (es' : List Entry) → TakesBack notes es es' → NotesTakenBack es es' notes owned before
