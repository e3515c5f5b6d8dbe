-- A table of locks: its owners in the order in which they entered.
use Rattle.std.specs.Prelude.{ℕ, List, [], ◌∷◌, ◌++◌, Bool, map, filter}
use Rattle.std.specs.List.{All}
use Rattle.am_record.specs.OrderedKey.{OrderedKey}
use Rattle.am_record.specs.ByNumber.{has_number, of_number, with_changed, without_number}
use Rattle.am_record.specs.declared.lock.Lock.{Lock}
use Rattle.am_store_locks.specs.OwnerLocks.{OwnerLocks, blocks, is_exclusive_at, AreApart}

-- the numbers of the owners
abbrev pub owner_numbers : List OwnerLocks → List ℕ
owner_numbers table = map (λ (h : OwnerLocks). h.owner) table

-- whether the transaction is an owner
abbrev pub is_owner : List OwnerLocks → ℕ → Bool
is_owner table tx = has_number (λ (h : OwnerLocks). h.owner) table tx

-- the locks of the transaction, none where it is no owner
abbrev pub locks_owned : List OwnerLocks → ℕ → List Lock
locks_owned table tx = of_number (λ (h : OwnerLocks). h.owner) (λ h. h.locks) [] table tx

-- the table with one more owner, which holds nothing yet
abbrev pub entered : List OwnerLocks → ℕ → List OwnerLocks
entered table tx = table ++ record { owner = tx; locks = [] } ∷ []

-- the table with these locks as those of the transaction
abbrev pub with_locks : List OwnerLocks → ℕ → List Lock → List OwnerLocks
with_locks table tx locks = with_changed (λ (h : OwnerLocks). h.owner) (λ h. record h { locks = locks }) tx table

-- the table without the transaction
abbrev pub without_owner : List OwnerLocks → ℕ → List OwnerLocks
without_owner table tx = without_number (λ (h : OwnerLocks). h.owner) tx table

-- the numbers of the other owners that hold a lock which conflicts with the asked one
abbrev pub blockers : List OwnerLocks → ℕ → Lock → List ℕ
blockers table tx asked = map (λ (h : OwnerLocks). h.owner) (filter (blocks tx asked) table)

-- the numbers of the owners that hold an exclusive lock on the key
abbrev pub exclusive_holders : List OwnerLocks → OrderedKey → List ℕ
exclusive_holders table key = map (λ (h : OwnerLocks). h.owner) (filter (is_exclusive_at key) table)

-- each owner is apart from all later ones
abbrev pub AreAllApart : List OwnerLocks → Type 0
AreAllApart [] = Unit {0}
AreAllApart (h ∷ table) = All (AreApart h) table × AreAllApart table
