-- The locks of an owner that is the only one, by what it asked for.
use Rattle.std.specs.Prelude.{ℕ, List, [], ◌∷◌, map}
use Rattle.am_record.specs.Interval.{point}
use Rattle.am_record.specs.declared.lock.Mode.TheVariants.{Shared, Exclusive}
use Rattle.am_record.specs.Locks.{with_lock}
use Rattle.am_record.specs.declared.lock.Lock.{Lock}
use Rattle.am_store_locks.specs.OwnerLocks.{OwnerLocks}
use Rattle.am_audit_locks.specs.declared.asked_locks.Listed.{Listed}
use Rattle.am_audit_locks.specs.declared.asked_locks.Listed.TheVariants.{Read, Write, Other}

-- the locks of an owner that had these and was granted the others, one after another
abbrev pub locks_by : List Lock → List Lock → List Lock
locks_by own [] = own
locks_by own (asked ∷ later) = locks_by (with_lock own asked) later

abbrev pub only_owner : ℕ → List Lock → OwnerLocks
only_owner number asked = record { owner = number; locks = locks_by [] asked }

-- what is listed, as a lock
abbrev pub lock_at : Listed → Lock
lock_at (Read key) = record { mode = Shared; range = point key }
lock_at (Write key) = record { mode = Exclusive; range = point key }
lock_at (Other lock) = lock

abbrev pub listed_locks : List Listed → List Lock
listed_locks listed = map lock_at listed
