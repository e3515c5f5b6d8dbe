-- What is right of a trace: at each moment it is serial, steady, right in its Busy answers, and formed.
use Rattle.std.specs.Prelude.{◌≡◌, ◌≢◌, ◌⊎◌, ◌↔◌, ℕ, ◌≤◌, List, [], ◌∷◌, ◌++◌, Bool, true, Option, None, MatchOption}
use Rattle.std.specs.Prelude.{MatchBool}
use Rattle.am_record.specs.declared.step.Refusal.{Refusal}
use Rattle.am_record.specs.declared.step.Refusal.TheVariants.{Busy, TooManyLocks, NoMemory}
use Rattle.am_record.specs.declared.step.Op.{Op}
use Rattle.am_record.specs.declared.step.Op.TheVariants.{Get, Scan, ScanBack, Insert, Replace, Set, Delete}
use Rattle.am_record.specs.declared.step.Op.TheVariants.{DeleteRange, Load, Put, Lock, Mark, Back}
use Rattle.am_record.specs.declared.step.Step.{Step}
use Rattle.am_record.specs.declared.step.Step.TheVariants.{Do}
use Rattle.am_record.specs.declared.step.Reply.{Reply}
use Rattle.am_record.specs.declared.step.Reply.TheVariants.{Done, Found, Absent, Rows, Exists, Missing, Deleted, NoMark}
use Rattle.am_record.specs.declared.step.Reply.TheVariants.{Refused}
use Rattle.am_record.specs.Plain.{is_key_of}
use Rattle.am_record.specs.Asks.{clashes, lock_of}
use Rattle.am_law_serial.specs.Trace.{Trace, Effect, effect, is_active, held_by, IsSerial, IsSteady, AtEachMoment}
use Rattle.am_record.specs.Refusals.{is_one_too_many}
use Rattle.am_law_serial.specs.Machine.{state_at, is_full, due_early, locks_in, May}

-- another active transaction holds a lock that conflicts with the operation's
pub record Blocks (es : List Effect) (t : ℕ) (op : Op) (u : ℕ) : Type 0 where
  pub active : is_active es u ≡ true
  pub other : u ≢ t
  pub conflict : clashes (lock_of op) (held_by es u) ≡ true

pub record IsLeastBlocker (es : List Effect) (t : ℕ) (op : Op) (h : ℕ) : Type 0 where
  pub blocks : Blocks es t op h
  pub least : (u : ℕ) → Blocks es t op u → h ≤ u

-- Busy is answered exactly where no earlier refusal is due and another holds a conflicting lock, and it names the least
abbrev pub BusyRightAt : ℕ → List Effect → Step → Reply → Type 0
BusyRightAt most_runs es (Do t op) reply = (h : ℕ) → (reply ≡ Refused (Busy h)) ↔
    ((due_early (is_full most_runs (state_at es).runs reply) (state_at es) t op ≡ None) × IsLeastBlocker es t op h)
BusyRightAt most_runs es _ reply = Unit {0}

-- the reply is one of the operation's answers
abbrev pub IsAnswerOf : Op → Reply → Type 0
IsAnswerOf (Get k) (Found v) = Unit {0}
IsAnswerOf (Get k) Absent = Unit {0}
IsAnswerOf (Scan range max) (Rows rows) = Unit {0}
IsAnswerOf (ScanBack range max) (Rows rows) = Unit {0}
IsAnswerOf (Insert k v) (Exists k') = k' ≡ k
IsAnswerOf (Insert k v) Done = Unit {0}
IsAnswerOf (Replace k v) Done = Unit {0}
IsAnswerOf (Replace k v) Missing = Unit {0}
IsAnswerOf (Set k v) Done = Unit {0}
IsAnswerOf (Delete k) Done = Unit {0}
IsAnswerOf (Delete k) Missing = Unit {0}
IsAnswerOf (DeleteRange range max) (Deleted n) = n ≤ max
IsAnswerOf (Load records) (Exists k) = is_key_of records k ≡ true
IsAnswerOf (Load records) Done = Unit {0}
IsAnswerOf (Put records) Done = Unit {0}
IsAnswerOf (Lock lock) Done = Unit {0}
IsAnswerOf Mark Done = Unit {0}
IsAnswerOf Back Done = Unit {0}
IsAnswerOf Back NoMark = Unit {0}
IsAnswerOf _ _ = ⊥

abbrev pub IsBusy : Reply → Type 0
IsBusy reply = (h : ℕ) × (reply ≡ Refused (Busy h))

-- the form of a reply to an operation, Busy answers aside
abbrev pub FormedDo : Option Refusal → Bool → Op → Reply → Type 0
FormedDo early full op reply =
    MatchOption early
    (IsBusy reply ⊎ MatchBool full (reply ≡ Refused TooManyLocks) ((reply ≡ Refused NoMemory) ⊎ IsAnswerOf op reply))
    (λ why. reply ≡ Refused why)

abbrev pub FormedAt : ℕ → List Effect → Step → Reply → Type 0
FormedAt most_runs es (Do t op) reply =
    FormedDo (due_early (is_full most_runs (state_at es).runs reply) (state_at es) t op)
    (is_one_too_many (locks_in (state_at es).active t) (lock_of op)) op reply
FormedAt most_runs es step reply = May most_runs (state_at es) step reply

-- a fact of each event and the moment before it
abbrev pub EachEvent : (List Effect → Step → Reply → Type 0) → List Effect → Trace → Type 0
EachEvent P es [] = Unit {0}
EachEvent P es (e ∷ trace) = P es e.0 e.1 × EachEvent P (es ++ effect e.0 e.1 ∷ []) trace

pub record IsSoundFrom (most_runs : ℕ) (es : List Effect) (trace : Trace) : Type 0 where
  pub serial : AtEachMoment IsSerial es trace
  pub steady : AtEachMoment IsSteady es trace
  pub busy : EachEvent (BusyRightAt most_runs) es trace
  pub formed : EachEvent (FormedAt most_runs) es trace

-- the same of a whole trace, of a store that makes so many runs at most
abbrev pub IsSound : ℕ → Trace → Type 0
IsSound most_runs trace = IsSoundFrom most_runs [] trace
