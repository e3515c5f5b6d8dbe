-- A store with one transaction at a time: its committed records, and those that a commit would leave.
use Rattle.std.specs.Prelude.{◌≡◌, ℕ, List, [], ◌∷◌, Bool, true, false, Option, Some, None}
use Rattle.am_record.specs.Limits.{max_runs}
use Rattle.am_record.specs.Plain.{PlainMap}
use Rattle.am_record.specs.declared.step.Op.{Op}
use Rattle.am_record.specs.declared.step.Step.TheVariants.{Abort}
use Rattle.am_record.specs.declared.step.Reply.{Reply}
use Rattle.am_record.specs.declared.step.Reply.TheVariants.{Aborted, Refused}
use Rattle.am_record.specs.declared.step.Refusal.TheVariants.{NoMemory, TooManyRuns}
use Rattle.am_index.specs.Content.{content}
use Rattle.am_store_undo.specs.declared.note.Note.{Note}
use Rattle.am_law_serial.specs.Trace.{Trace, Answered, ops_of}
use Rattle.am_law_effect.specs.Laws.{taken_back}
use Rattle.am_law_effect.specs.Store.{opened, after_all}
use Rattle.am_law_sound.specs.StateOf.{IsStateOf}
use Rattle.am_law_sound.specs.StoreState.{Active, StoreState, state_after}

-- what the active transaction noted
abbrev pub notes_of : List Active → List Note
notes_of [] = []
notes_of (x ∷ xs) = x.notes

-- the committed records: those that are left where the active transaction is taken back
abbrev pub committed_map : StoreState → PlainMap
committed_map p = content (taken_back (notes_of p.active) p.entries)

-- the records with all that the active transaction did
abbrev pub draft_map : StoreState → PlainMap
draft_map p = content p.entries

-- no transaction is active
abbrev pub IsIdle : StoreState → Type 0
IsIdle p = p.active ≡ []

-- the store as an abort of the active transaction would leave it, which is the newest one
abbrev pub rested : List Active → StoreState → StoreState
rested [] p = p
rested (x ∷ xs) p = state_after p (Abort p.begun) Aborted

abbrev pub at_rest : StoreState → StoreState
at_rest p = rested p.active p

-- the store stands where some trace leaves it, and no transaction is active
pub record IsFree (p : StoreState) : Type 0 where
  pub trace : Trace
  pub at : IsStateOf trace p
  pub most : p.most_runs ≡ max_runs
  pub none : (after_all opened trace).state.active ≡ []

-- the newest transaction alone is active, on these committed records, and was answered these operations
pub record IsInside (p : StoreState) (t : ℕ) (own : List Op) (m : PlainMap) : Type 0 where
  pub trace : Trace
  pub body : List Answered
  pub at : IsStateOf trace p
  pub most : p.most_runs ≡ max_runs
  pub newest : p.begun ≡ t
  pub alone : (after_all opened trace).state.active ≡ ((after_all opened trace).state.begun, body) ∷ []
  pub answered : ops_of body ≡ own
  pub on : (after_all opened trace).state.committed ≡ m

-- no transaction is active but this one
abbrev pub IsAlone : StoreState → Option ℕ → Type 0
IsAlone p None = IsFree p
IsAlone p (Some t) = (own : List Op) × (m : PlainMap) × IsInside p t own m

-- the store took as many runs as it may, or memory was refused
abbrev pub is_out_of_room : Reply → Bool
is_out_of_room (Refused NoMemory) = true
is_out_of_room (Refused TooManyRuns) = true
is_out_of_room reply = false

-- what the transaction did stays, and none is active
pub record IsCommitted (p p' : StoreState) : Type 0 where
  pub free : IsFree p'
  pub idle : IsIdle p'
  pub same : p'.entries ≡ p.entries

-- what it did is taken back, and none is active
pub record IsAborted (p p' : StoreState) : Type 0 where
  pub free : IsFree p'
  pub idle : IsIdle p'
  pub back : p'.entries ≡ taken_back (notes_of p.active) p.entries
  pub rests : p' ≡ at_rest p
