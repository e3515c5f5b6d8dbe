-- The store that a trace describes: its entries, its wishes and its notes after each step, and the answers that it may
-- give.
use Rattle.std.specs.Prelude.{◌≡◌, ℕ, ◌+◌, ◌-◌, ◌≤◌, ◌==◌, length, List, [], ◌∷◌, ◌++◌, Bool, true, false, cond}
use Rattle.std.specs.Prelude.{drop, Option, Some, None, MatchBool}
use Rattle.std.specs.List.{list_any, AllByRecursion}
use Rattle.am_record.specs.OrderedKey.{OrderedKey}
use Rattle.am_record.specs.Interval.{Interval, within}
use Rattle.am_record.specs.Asks.{locks_of}
use Rattle.am_record.specs.Plain.{PlainMap}
use Rattle.am_record.specs.Owners.{holder_among}
use Rattle.am_record.specs.declared.entry.Entry.{Entry}
use Rattle.am_record.specs.declared.step.Refusal.TheVariants.{BadLimit}
use Rattle.am_record.specs.declared.step.Op.TheVariants.{Load, Put}
use Rattle.am_record.specs.declared.step.Step.{Step}
use Rattle.am_record.specs.declared.step.Step.TheVariants.{Begin, Do, Abort, Merge, Clean}
use Rattle.am_record.specs.declared.step.Reply.{Reply}
use Rattle.am_record.specs.declared.step.Reply.TheVariants.{Begun, Done, Aborted, Moved, Refused}
use Rattle.am_index.specs.Content.{content}
use Rattle.am_store_undo.specs.declared.note.Note.{Note}
use Rattle.am_record.specs.Events.{Event}
use Rattle.am_law_serial.specs.Trace.{Trace, effect, ops_of}
use Rattle.am_record.specs.Refusals.{is_limit}
use Rattle.am_law_serial.specs.Machine.{State, Transaction, start, May, next}
use Rattle.am_law_effect.specs.Operations.{wished, new_records, changed, noted, notes_left, marks_left}
use Rattle.am_law_effect.specs.MergeAnswers.{Holders, all_worked_off, MergeRight, merged_by, wishes_left}
use Rattle.am_law_effect.specs.MergeAnswers.{CleanRight, cleaned_by}
use Rattle.am_law_effect.specs.History.{Moment, aborted, gone_back}

-- what a trace says of the store: its transactions with their locks, its entries, its wishes with the oldest first,
-- its moments with the newest first, and the notes and marks of each transaction with the newest first
pub record Store : Type 0 where
  pub state : State
  pub entries : List Entry
  pub wishes : List Interval
  pub past : List Moment
  pub notes : ℕ → List Note
  pub marks : ℕ → List ℕ

abbrev pub opened : Store
opened = record { state = start; entries = []; wishes = []; past = []; notes = λ t. []; marks = λ t. [] }

-- who has exclusively locked the key
abbrev pub holder : List Transaction → Holders
holder txs = holder_among (λ (x : Transaction). x.0) (λ (x : Transaction). locks_of (ops_of x.1)) txs

-- ---- wishes

-- at the end of the ring of 64: the oldest is lost where 64 are there
abbrev pub with_wish : List Interval → Option Interval → List Interval
with_wish wishes None = wishes
with_wish wishes (Some range) = drop (length wishes - 63) wishes ++ range ∷ []

abbrev pub wishes_after : List Interval → Step → Reply → List Interval
wishes_after wishes (Do t op) reply = with_wish wishes (wished op reply)
wishes_after wishes (Merge limit) reply = wishes_left wishes reply
wishes_after wishes _ _ = wishes

-- ---- entries

abbrev pub entries_after : Store → Step → Reply → List Entry
entries_after s (Do t op) reply = changed (gone_back t s.past s.entries) s.state.runs op reply s.entries
entries_after s (Abort t) Aborted = aborted t s.past s.entries
entries_after s (Merge limit) reply = all_worked_off (merged_by s.entries s.wishes reply) s.entries
entries_after s (Clean range limit) reply = all_worked_off
    (cleaned_by s.entries (holder s.state.active) range reply) s.entries
entries_after s _ _ = s.entries

-- ---- notes and marks

abbrev pub notes_after : Store → Step → Reply → ℕ → List Note
notes_after s Begin (Begun t) u = cond (t == u) [] (s.notes u)
notes_after s (Do t op) reply u = cond (t == u) (noted s.state.runs op reply s.entries ++
    notes_left op reply (s.marks u) (s.notes u)) (s.notes u)
notes_after s _ _ u = s.notes u

abbrev pub marks_after : Store → Step → Reply → ℕ → List ℕ
marks_after s Begin (Begun t) u = cond (t == u) [] (s.marks u)
marks_after s (Do t op) reply u = cond (t == u) (marks_left op reply (length (s.notes u)) (s.marks u)) (s.marks u)
marks_after s _ _ u = s.marks u

-- ---- steps

-- the store after the step
abbrev pub after_step : Store → Step → Reply → Store
after_step s step reply = record {
  state = next s.state (effect step reply);
  entries = entries_after s step reply;
  wishes = wishes_after s.wishes step reply;
  past = (effect step reply, s.entries) ∷ s.past;
  notes = notes_after s step reply;
  marks = marks_after s step reply;
}

-- a limit from 1 to 64, or BadLimit
abbrev pub WithinLimit : ℕ → Reply → Type 0 → Type 0
WithinLimit limit reply right = MatchBool (is_limit limit) right (reply ≡ Refused BadLimit)

-- the store that makes so many runs at most may give this reply to the step
abbrev pub MayReply : ℕ → Store → Step → Reply → Type 0
MayReply most_runs s (Merge limit) reply = WithinLimit limit reply
    (MergeRight s.entries s.wishes (holder s.state.active) limit reply)
MayReply most_runs s (Clean range limit) reply = WithinLimit limit reply
    (CleanRight s.entries (holder s.state.active) range limit reply)
MayReply most_runs s step reply = May most_runs s.state step reply

abbrev pub IsRunOf : ℕ → Store → Trace → Type 0
IsRunOf most_runs s [] = Unit {0}
IsRunOf most_runs s (e ∷ trace) = MayReply most_runs s e.0 e.1 × IsRunOf most_runs (after_step s e.0 e.1) trace

abbrev pub after_all : Store → Trace → Store
after_all s [] = s
after_all s (e ∷ trace) = after_all (after_step s e.0 e.1) trace

-- ---- what is asked for

-- how many records a merge moved out of the run
abbrev pub moved_from : ℕ → Step → Reply → ℕ
moved_from run (Merge limit) (Moved n r) = cond (r == run) n 0
moved_from run _ _ = 0

abbrev pub all_moved_from : ℕ → Trace → ℕ
all_moved_from run [] = 0
all_moved_from run (e ∷ trace) = moved_from run e.0 e.1 + all_moved_from run trace

-- how many records the load or the put that made the run put there, by how many runs there were and what was live
abbrev pub loaded_into : ℕ → ℕ → PlainMap → Step → Reply → ℕ
loaded_into run runs m (Do t (Load records)) Done = cond (runs + 1 == run) (length records) 0
loaded_into run runs m (Do t (Put records)) Done = cond (runs + 1 == run) (length (new_records records m)) 0
loaded_into run runs m _ _ = 0

abbrev pub all_loaded_into : ℕ → Store → Trace → ℕ
all_loaded_into run s [] = 0
all_loaded_into run s (e ∷ trace) = loaded_into run s.state.runs (content s.entries) e.0 e.1 + all_loaded_into run
    (after_step s e.0 e.1) trace

-- the event is an answered read of the key
abbrev pub asks_for : Option Interval → OrderedKey → Bool
asks_for None q = false
asks_for (Some range) q = within range q

abbrev pub reads : OrderedKey → Step → Reply → Bool
reads q (Do t op) reply = asks_for (wished op reply) q
reads q _ _ = false

-- one of the events is an answered read of the key
abbrev pub was_read : OrderedKey → Trace → Bool
was_read q trace = list_any (λ (e : Event). reads q e.0 e.1) trace

-- whatever a merge takes out of a run, a read before it asked for
abbrev pub AskedAt : Trace → Store → Step → Reply → Type 0
AskedAt before s (Merge limit) reply = AllByRecursion (λ (e : Entry). was_read e.key before ≡ true)
    (merged_by s.entries s.wishes reply)
AskedAt before s _ _ = Unit {0}

abbrev pub EachAsked : Trace → Store → Trace → Type 0
EachAsked before s [] = Unit {0}
EachAsked before s (e ∷ trace) = AskedAt before s e.0 e.1 × EachAsked (before ++ e ∷ []) (after_step s e.0 e.1) trace

-- nothing is merged that no read asked for, and nothing twice
pub record IsAsked (trace : Trace) : Type 0 where
  pub read : EachAsked [] opened trace
  pub once : (run : ℕ) → all_moved_from run trace ≤ all_loaded_into run opened trace
