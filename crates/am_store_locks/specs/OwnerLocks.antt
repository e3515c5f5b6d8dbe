-- The owner of locks, and what it holds.
use Rattle.std.specs.Prelude.{ℕ, ◌≤◌, List, length, Bool, not, ◌==◌, ◌&&◌, ◌≡◌, ◌≢◌, false, refl}
use Rattle.std.specs.Coded.{Coded, code_by, coded×, coded_ℕ, coded_list}
use Rattle.std.specs.List.{list_any, All}
use Rattle.am_record.specs.OrderedKey.{OrderedKey}
use Rattle.am_record.specs.Interval.{within}
use Rattle.am_record.specs.Locks.{conflicts, is_exclusive}
use Rattle.am_record.specs.declared.lock.Lock.{Lock}
use Rattle.am_record.specs.contracts.lock.Lock as lock
use Rattle.am_record.specs.Limits.{max_locks}

-- a transaction by its number, and its locks, the oldest first
pub record OwnerLocks : Type 0 where
  pub owner : ℕ
  pub locks : List Lock

-- it is stored as the pair of its fields
abbrev pub held_code : Coded OwnerLocks
held_code =
    code_by (ℕ × List Lock) (coded× coded_ℕ (coded_list lock.the_row.coded)) (λ h. (h.owner, h.locks))
    (λ p. record { owner = p.0; locks = p.1 }) (λ _. refl)

-- whether the owner holds a lock that conflicts with the asked one
abbrev pub has_conflict : Lock → OwnerLocks → Bool
has_conflict asked held = list_any (conflicts asked) held.locks

-- whether the owner keeps the transaction from the asked lock: its own locks never do
abbrev pub blocks : ℕ → Lock → OwnerLocks → Bool
blocks tx asked held = not (held.owner == tx) && has_conflict asked held

-- whether the owner holds an exclusive lock on the key
abbrev pub is_exclusive_at : OrderedKey → OwnerLocks → Bool
is_exclusive_at key held = list_any (λ l. is_exclusive l.mode && within l.range key) held.locks

-- the owner has no more locks than it may have
abbrev pub HasFew : OwnerLocks → Type 0
HasFew held = length held.locks ≤ max_locks

-- no lock of the first list conflicts with one of the second
abbrev pub NoConflicts : List Lock → List Lock → Type 0
NoConflicts some others = All (λ l. All (λ m. conflicts l m ≡ false) others) some

-- two owners whose locks don't conflict
pub record AreApart (a b : OwnerLocks) : Type 0 where
  pub numbers : a.owner ≢ b.owner
  pub locks : NoConflicts a.locks b.locks
