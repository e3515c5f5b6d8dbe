-- The locked machine: the committed map, and of each active transaction its answered operations.
use Rattle.std.specs.Prelude.{◌≡◌, ◌⊎◌, ℕ, ◌+◌, ◌<◌, ◌≤◌, nat_le, length, List, [], ◌∷◌, ◌++◌, Bool, true}
use Rattle.std.specs.Prelude.{false, ◌&&◌, ◌||◌, map, Option, MatchOption}
use Rattle.std.specs.FinMap.{empty}
use Rattle.am_record.specs.Limits.{max_active, max_begun, max_runs}
use Rattle.am_record.specs.OrderedKey.{OrderedKey}
use Rattle.am_record.specs.declared.lock.Lock.{Lock}
use Rattle.am_record.specs.declared.step.Refusal.{Refusal}
use Rattle.am_record.specs.declared.step.Refusal.TheVariants.{NoSuchTx, TooManyTx, TooManyRuns, BadLimit, NoMemory}
use Rattle.am_record.specs.declared.step.Op.{Op}
use Rattle.am_record.specs.declared.step.Step.{Step}
use Rattle.am_record.specs.declared.step.Step.TheVariants.{Begin, Do, Commit, Abort, Merge, Clean}
use Rattle.am_record.specs.declared.step.Reply.{Reply}
use Rattle.am_record.specs.declared.step.Reply.TheVariants.{Begun, Committed, Aborted, Moved, MergeDone, Ended, Idle}
use Rattle.am_record.specs.declared.step.Reply.TheVariants.{Cleaned, Refused}
use Rattle.am_record.specs.Plain.{PlainMap, Draft, fresh, answer, left_on}
use Rattle.am_record.specs.Asks.{lock_of, locks_of, holds, owns}
use Rattle.am_record.specs.ByNumber.{has_number, of_number, with_changed, without_number}
use Rattle.am_record.specs.Owners.{blocker_among}
use Rattle.am_record.specs.Refusals.{is_limit, refusal_before_lock, is_one_too_many, lock_refusal, or_else}
use Rattle.am_law_serial.specs.Trace.{Trace, Answered, ops_of, Effect, Begins, Answers, Commits, Aborts, Nothing}
use Rattle.am_law_serial.specs.Trace.{effect}
use Rattle.am_law_serial.specs.Trace.{runs_made, left_by_bodies, begun, committers, runs, committed, active, body}

-- a transaction's number and its answered operations
abbrev pub Transaction : Type 0
Transaction = ℕ × List Answered

pub record State : Type 0 where
  pub begun : ℕ
  pub commits : ℕ
  pub runs : ℕ
  pub committed : PlainMap
  -- by rising number
  pub active : List Transaction

abbrev pub start : State
start = record { begun = 0; commits = 0; runs = 0; committed = empty; active = [] }

abbrev pub is_open : List Transaction → ℕ → Bool
is_open txs t = has_number (λ (x : Transaction). x.0) txs t

-- the answered operations of a transaction, none where it isn't active
abbrev pub body_in : List Transaction → ℕ → List Answered
body_in txs t = of_number (λ (x : Transaction). x.0) (λ x. x.1) [] txs t

-- what the transaction sees: its own body alone on the committed map
abbrev pub view : State → ℕ → Draft
view s t = left_on (ops_of (body_in s.active t)) (fresh s.committed)

abbrev pub locks_in : List Transaction → ℕ → List Lock
locks_in txs t = locks_of (ops_of (body_in txs t))

-- whether the transaction has locked the key; whether it has done so exclusively
abbrev pub holds_in : State → ℕ → OrderedKey → Bool
holds_in s t q = holds (locks_in s.active t) q

abbrev pub owns_in : State → ℕ → OrderedKey → Bool
owns_in s t q = owns (locks_in s.active t) q

-- the committed map with the bodies of all that is active applied
abbrev pub overlay_in : State → PlainMap
overlay_in s = left_by_bodies (map (λ (x : Transaction). x.1) s.active) s.committed

-- ---- refusals

-- whether the reply says that no further run may be made
abbrev pub says_full : Reply → Bool
says_full (Refused TooManyRuns) = true
says_full reply = false

-- whether no further run may be made: where as many were as may be, or where the reply says so and 65,535 were, since
-- no trace tells how many of these have entries left
abbrev pub is_full : ℕ → ℕ → Reply → Bool
is_full most_runs runs reply = nat_le most_runs runs || (nat_le max_runs runs && says_full reply)

-- the refusal that is due before the lock is asked for, by whether no further run may be made
abbrev pub due_early : Bool → State → ℕ → Op → Option Refusal
due_early full s t op = refusal_before_lock (is_open s.active t) (length (body_in s.active t)) full op

-- the least of the other transactions that hold a conflicting lock
abbrev pub blocker : List Transaction → ℕ → Option Lock → Option ℕ
blocker txs = blocker_among (λ (x : Transaction). x.0) (λ (x : Transaction). locks_of (ops_of x.1)) txs

-- the refusal that is due where none is due early
abbrev pub due_lock : State → ℕ → Op → Option Refusal
due_lock s t op = lock_refusal (blocker s.active t (lock_of op)) (is_one_too_many (locks_in s.active t) (lock_of op))

abbrev pub due : Bool → State → ℕ → Op → Option Refusal
due full s t op = or_else (due_early full s t op) (due_lock s t op)

-- ---- steps

-- the reply to an operation: the refusal that is due, and else the answer on the transaction's own view, or want of
-- memory
abbrev pub MayDo : ℕ → State → ℕ → Op → Reply → Type 0
MayDo most_runs s t op reply = MatchOption (due (is_full most_runs s.runs reply) s t op)
    ((reply ≡ answer op (view s t)) ⊎ (reply ≡ Refused NoMemory)) (λ why. reply ≡ Refused why)

-- the machine that makes so many runs at most may give this reply to the step. Which entries a merge or a clean takes
-- isn't the machine's
abbrev pub May : ℕ → State → Step → Reply → Type 0
May most_runs s Begin (Begun t) = (t ≡ s.begun + 1) × (length s.active < max_active) × (s.begun < max_begun)
May most_runs s Begin (Refused TooManyTx) = (max_active ≤ length s.active) ⊎ (max_begun ≤ s.begun)
May most_runs s (Do t op) reply = MayDo most_runs s t op reply
May most_runs s (Commit t) (Committed c) = (is_open s.active t ≡ true) × (c ≡ s.commits + 1)
May most_runs s (Commit t) (Refused NoSuchTx) = is_open s.active t ≡ false
May most_runs s (Abort t) Aborted = is_open s.active t ≡ true
May most_runs s (Abort t) (Refused NoSuchTx) = is_open s.active t ≡ false
May most_runs s (Merge limit) (Moved n run) =
    (is_limit limit ≡ true) × (1 ≤ n) × (n ≤ limit) × (1 ≤ run) × (run ≤ s.runs)
May most_runs s (Merge limit) MergeDone = is_limit limit ≡ true
May most_runs s (Merge limit) (Ended k h) = is_limit limit ≡ true
May most_runs s (Merge limit) Idle = is_limit limit ≡ true
May most_runs s (Merge limit) (Refused BadLimit) = is_limit limit ≡ false
May most_runs s (Merge limit) (Refused NoMemory) = is_limit limit ≡ true
May most_runs s (Clean range limit) (Cleaned n) = (is_limit limit ≡ true) × (n ≤ limit)
May most_runs s (Clean range limit) (Refused BadLimit) = is_limit limit ≡ false
May most_runs s (Clean range limit) (Refused NoMemory) = is_limit limit ≡ true
May most_runs s _ _ = ⊥

-- with the operation at the end of its own
abbrev pub extended : Answered → Transaction → Transaction
extended done x = (x.0, x.1 ++ done ∷ [])

abbrev pub without_transaction : ℕ → List Transaction → List Transaction
without_transaction t txs = without_number (λ (x : Transaction). x.0) t txs

-- the state after. A commit rebases what is active: the other views are their bodies alone on the new committed map
abbrev pub next : State → Effect → State
next s (Begins t) = record s { begun = s.begun + 1; active = s.active ++ (t, []) ∷ [] }
next s (Answers t op reply) = record s {
  runs = s.runs + runs_made (view s t).map op reply;
  active = with_changed (λ (x : Transaction). x.0) (extended (op, reply)) t s.active;
}
next s (Commits t) = record s {
  commits = s.commits + 1;
  committed = (view s t).map;
  active = without_transaction t s.active;
}
next s (Aborts t) = record s { active = without_transaction t s.active }
next s Nothing = s

-- the machine may give these replies to these steps
abbrev pub Runs : ℕ → State → Trace → Type 0
Runs most_runs s [] = Unit {0}
Runs most_runs s (e ∷ trace) = May most_runs s e.0 e.1 × Runs most_runs (next s (effect e.0 e.1)) trace

abbrev pub after_run : State → Trace → State
after_run s [] = s
after_run s (e ∷ trace) = after_run (next s (effect e.0 e.1)) trace

-- the state that the trace makes
abbrev pub state_at : List Effect → State
state_at es = record {
  begun = length (begun es);
  commits = length (committers es);
  runs = runs es;
  committed = committed es;
  active = map (λ t. (t, body es t)) (active es);
}
