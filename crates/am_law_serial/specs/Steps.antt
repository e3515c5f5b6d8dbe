-- What one step of the machine does to what each transaction sees and holds.
use Rattle.std.specs.Prelude.{◌≡◌, ◌≢◌, ℕ, [], true, false, None}
use Rattle.am_record.specs.declared.step.Op.{Op}
use Rattle.am_record.specs.declared.step.Reply.{Reply}
use Rattle.am_record.specs.Plain.{fresh, draft_after}
use Rattle.am_record.specs.Asks.{lock_of, with_asked, clashes}
use Rattle.am_law_serial.specs.Trace.{Begins, Answers, Commits, Aborts}
use Rattle.am_law_serial.specs.Machine.{State, is_open, view, locks_in, due, next}

-- the transaction is as it was, whatever is committed
pub record KeepsLocks (s s' : State) (u : ℕ) : Type 0 where
  pub is_active : is_open s'.active u ≡ is_open s.active u
  pub locks : locks_in s'.active u ≡ locks_in s.active u

-- and sees what it saw
pub record IsUntouched (s s' : State) (u : ℕ) : Type 0 where
  pub keeps : KeepsLocks s s' u
  pub view : view s' u ≡ view s u

-- a transaction has begun
pub record HasBegun (s : State) (t : ℕ) : Type 0 where
  pub is_active : is_open s.active t ≡ true
  pub locks : locks_in s.active t ≡ []
  pub view : view s t ≡ fresh s.committed

-- a transaction's operation was answered
pub record HasDone (s s' : State) (t : ℕ) (op : Op) : Type 0 where
  pub is_active : is_open s'.active t ≡ true
  pub locks : locks_in s'.active t ≡ with_asked (locks_in s.active t) (lock_of op)
  pub view : view s' t ≡ draft_after op (view s t)

-- the transaction may have the lock that the operation asks for
pub record IsGranted (s : State) (t : ℕ) (op : Op) : Type 0 where
  pub is_active : is_open s.active t ≡ true
  pub free : (u : ℕ) → is_open s.active u ≡ true → u ≢ t → clashes (lock_of op) (locks_in s.active u) ≡ false

pub record StepLaws (s : State) : Type 0 where
  pub granted : (t : ℕ) (op : Op) → due false s t op ≡ None → IsGranted s t op
  pub begins : (t : ℕ) → is_open s.active t ≡ false → HasBegun (next s (Begins t)) t
  pub begins_others : (t u : ℕ) → u ≢ t → IsUntouched s (next s (Begins t)) u
  pub answers : (t : ℕ) (op : Op) (reply : Reply) → is_open s.active t ≡ true →
      HasDone s (next s (Answers t op reply)) t op
  pub answers_others : (t : ℕ) (op : Op) (reply : Reply) (u : ℕ) → u ≢ t → IsUntouched s (next s (Answers t op reply)) u
  pub commits : (t : ℕ) → is_open (next s (Commits t)).active t ≡ false
  pub commits_others : (t u : ℕ) → u ≢ t → KeepsLocks s (next s (Commits t)) u
  pub aborts : (t : ℕ) → is_open (next s (Aborts t)).active t ≡ false
  pub aborts_others : (t u : ℕ) → u ≢ t → IsUntouched s (next s (Aborts t)) u
