-- The refusals of an operation: those that are due before its lock is asked for, and those of the lock.
use Rattle.std.specs.Prelude.{ℕ, nat_le, length, List, Bool, true, false, cond, not, ◌&&◌, Option, Some, None}
use Rattle.am_record.specs.Limits.{max_limit, max_locks, max_ops, max_rows}
use Rattle.am_record.specs.Locks.{is_covered}
use Rattle.am_record.specs.Plain.{is_orderly}
use Rattle.am_record.specs.declared.lock.Lock.{Lock}
use Rattle.am_record.specs.declared.step.Op.{Op}
use Rattle.am_record.specs.declared.step.Op.TheVariants.{Scan, ScanBack, DeleteRange, Load, Put}
use Rattle.am_record.specs.declared.step.Refusal.{Refusal}
use Rattle.am_record.specs.declared.step.Refusal.TheVariants.{NoSuchTx, Busy, TooManyLocks, TooManyOps, TooManyRuns}
use Rattle.am_record.specs.declared.step.Refusal.TheVariants.{NotRising, BadLimit}

-- whether so many entries may be merged or cleaned at once
abbrev pub is_limit : ℕ → Bool
is_limit limit = nat_le 1 limit && nat_le limit max_limit

-- whether a number of rows is within its limits
abbrev pub is_row_limit : ℕ → Bool
is_row_limit max = nat_le 1 max && nat_le max max_rows

-- whether the number of rows of a scan, or of records that a range loses, is within its limits
abbrev pub is_bounded : Op → Bool
is_bounded (Scan range max) = is_row_limit max
is_bounded (ScanBack range max) = is_row_limit max
is_bounded (DeleteRange range max) = is_row_limit max
is_bounded _ = true

-- whether the operation makes a run on some map
abbrev pub may_make_run : Op → Bool
may_make_run (Load records) = true
may_make_run (Put records) = true
may_make_run _ = false

-- the refusal of an operation that is due before its lock is asked for: by whether the transaction is active, how many
-- operations it was answered, and whether no further run may be made
abbrev pub refusal_before_lock : Bool → ℕ → Bool → Op → Option Refusal
refusal_before_lock is_active ops is_full op =
    cond (not is_active) (Some NoSuchTx)
    (cond (nat_le max_ops ops) (Some TooManyOps)
    (cond (not (is_orderly op)) (Some NotRising)
    (cond (not (is_bounded op)) (Some BadLimit)
    (cond (may_make_run op && is_full) (Some TooManyRuns)
    None))))

-- whether the lock would be added to as many held ones as there may be
abbrev pub is_one_too_many : List Lock → Option Lock → Bool
is_one_too_many own None = false
is_one_too_many own (Some asked) = nat_le max_locks (length own) && not (is_covered own asked)

-- the refusal of a lock, by who is in the way and by whether it is one too many
abbrev pub lock_refusal : Option ℕ → Bool → Option Refusal
lock_refusal (Some holder) is_too_many = Some (Busy holder)
lock_refusal None is_too_many = cond is_too_many (Some TooManyLocks) None

abbrev pub or_else : Option Refusal → Option Refusal → Option Refusal
or_else None later = later
or_else (Some why) later = Some why
