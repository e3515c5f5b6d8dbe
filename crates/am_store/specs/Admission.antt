-- What comes before an operation: the refusals that are due, and its lock.
use Rattle.std.specs.Prelude.{◌≡◌, ◌≢◌, ◌⊎◌, ℕ, List, true, Option, Some, None}
use Rattle.am_record.specs.Interval.{Interval, point}
use Rattle.am_record.specs.Asks.{with_asked}
use Rattle.am_record.specs.declared.lock.Lock.{Lock}
use Rattle.am_record.specs.declared.step.Refusal.{Refusal}
use Rattle.am_record.specs.declared.step.Refusal.TheVariants.{NoMemory}
use Rattle.am_record.specs.declared.step.Op.{Op}
use Rattle.am_record.specs.declared.step.Op.TheVariants.{Get, Scan, ScanBack}
use Rattle.am_store_locks.specs.Table.{is_owner, locks_owned}
use Rattle.am_store_tx.specs.Txs.{Txs}
use Rattle.am_record.specs.Refusals.{is_one_too_many, lock_refusal}
use Rattle.am_law_sound.specs.StoreState.{blocker_in}
use Rattle.am_store.specs.StoreContent.{actives}
use Rattle.am_store.specs.Memory.{adds_ninth_lock}

-- the refusal that is due for the lock that is asked for
abbrev pub lock_refusal_for : Txs → ℕ → Option Lock → Option Refusal
lock_refusal_for txs tx asked =
    lock_refusal (blocker_in (actives txs) tx asked) (is_one_too_many (locks_owned txs.locks tx) asked)

-- the lock is refused: for the reason that is due, or for want of memory where none is
abbrev pub IsLockRefusal : Txs → ℕ → Option Lock → Refusal → Type 0
IsLockRefusal txs tx asked why =
    (lock_refusal_for txs tx asked ≡ Some why)
    ⊎ ((why ≡ NoMemory) × (lock_refusal_for txs tx asked ≡ None)
    × (adds_ninth_lock (locks_owned txs.locks tx) asked ≡ true))

-- of the table of transactions, the locks of this one are those, and nothing else is changed
pub record HasLocks (txs : Txs) (tx : ℕ) (own : List Lock) (txs' : Txs) : Type 0 where
  pub begun : txs'.begun ≡ txs.begun
  pub active : txs'.active ≡ txs.active
  pub owner : is_owner txs'.locks tx ≡ true
  pub holds : locks_owned txs'.locks tx ≡ own
  pub others : (u : ℕ) → u ≢ tx → locks_owned txs'.locks u ≡ locks_owned txs.locks u

-- the lock is granted
pub record IsLockGranted (txs : Txs) (tx : ℕ) (asked : Option Lock) (txs' : Txs) : Type 0 where
  pub due : lock_refusal_for txs tx asked ≡ None
  pub locks : HasLocks txs tx (with_asked (locks_owned txs.locks tx) asked) txs'

-- the wish that the operation leaves once it is answered
abbrev pub wish_of : Op → Option Interval
wish_of (Get k) = Some (point k)
wish_of (Scan range max) = Some range
wish_of (ScanBack range max) = Some range
wish_of op = None
