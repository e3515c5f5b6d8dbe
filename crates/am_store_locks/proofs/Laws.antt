-- What the calls leave of each owner, for proofs above.
use Rattle.std.proofs.Common.{◌≡◌, ◌≢◌, ℕ, List, [], true, refl}
use Rattle.am_record.specs.declared.lock.Lock.{Lock}
use Rattle.am_record.proofs.ByNumber.{has_number-with_changed, of_number-with_changed, of_number-with_changed_other}
use Rattle.am_record.proofs.ByNumber.{of_number-push_none, of_number-without_other}
use Rattle.am_store_locks.specs.OwnerLocks.{OwnerLocks}
use Rattle.am_store_locks.specs.Table.{is_owner, locks_owned, entered, with_locks, without_owner}

abbrev owner : OwnerLocks → ℕ
owner h = h.owner

abbrev locks_of : OwnerLocks → List Lock
locks_of h = h.locks

-- ---- other locks for one owner

module _ (table : List OwnerLocks) (tx : ℕ) (locks : List Lock) where
  pub is_owner-with_locks : (n : ℕ) → is_owner (with_locks table tx locks) n ≡ is_owner table n
  is_owner-with_locks = has_number-with_changed owner (λ h. record h { locks = locks }) tx (λ h. refl) table

  -- the owner has the locks
  pub locks_owned-with_locks : is_owner table tx ≡ true → locks_owned (with_locks table tx locks) tx ≡ locks
  locks_owned-with_locks = of_number-with_changed owner (λ h. record h { locks = locks }) tx locks_of [] (λ _. locks)
      (λ h. refl) (λ h. refl) table

  -- every other owner keeps its own
  pub locks_owned-with_locks_other : (n : ℕ) → n ≢ tx → locks_owned (with_locks table tx locks) n ≡ locks_owned table n
  locks_owned-with_locks_other = of_number-with_changed_other owner (λ h. record h { locks = locks }) tx locks_of []
      (λ h. refl) table

-- ---- entering and leaving

-- who enters holds nothing, as before
pub locks_owned-entered : (table : List OwnerLocks) (tx n : ℕ) → locks_owned (entered table tx) n ≡ locks_owned table n
locks_owned-entered table tx n = of_number-push_none owner locks_of [] table (record { owner = tx; locks = [] }) n refl

pub locks_owned-without_owner : (table : List OwnerLocks) (tx n : ℕ) → n ≢ tx → locks_owned (without_owner table tx) n ≡
    locks_owned table n
locks_owned-without_owner table tx n = of_number-without_other owner locks_of [] tx table n
