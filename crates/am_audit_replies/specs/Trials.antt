-- Operations that are tried on a map: above a savepoint, which keeps the map as it was.
use Rattle.std.specs.Prelude.{◌≡◌, ℕ, zero, suc, length, [], ◌∷◌, ◌++◌, Bool, false, ◌&&◌, not, Option, Some, None}
use Rattle.am_record.specs.Interval.{Interval, meets}
use Rattle.am_record.specs.Locks.{is_exclusive}
use Rattle.am_record.specs.Asks.{lock_of}
use Rattle.am_record.specs.declared.lock.Lock.{Lock}
use Rattle.am_record.specs.Plain.{PlainMap, Draft, draft_after, is_orderly}
use Rattle.am_record.specs.declared.step.Op.{Op}
use Rattle.am_record.specs.declared.step.Op.TheVariants.{Back}

-- the draft with that map saved below all that it saved
abbrev pub above : Draft → PlainMap → Draft
above d m = record { map = d.map; saved = d.saved ++ m ∷ [] }

-- they left this draft above the map, with so many savepoints of their own
pub record HasTried (now : Draft) (marks : ℕ) (d : Draft) (m : PlainMap) : Type 0 where
  pub stands : now ≡ above d m
  pub count : marks ≡ length d.saved

-- Back so many times
abbrev pub backs : ℕ → Draft → Draft
backs zero d = d
backs (suc n) d = backs n (draft_after Back d)

-- ---- operations that need no trial

-- whether a lock lets a key of the interval be written
abbrev pub may_write_in : Interval → Option Lock → Bool
may_write_in range None = false
may_write_in range (Some lock) = is_exclusive lock.mode && meets lock.range range

-- whether the operation leaves the keys of the interval alone
abbrev pub is_apart : Interval → Op → Bool
is_apart range op = is_orderly op && not (may_write_in range (lock_of op))
