-- The active transactions of a trace as owners of locks, and what asking for a lock says of the machine.
use Rattle.std.specs.Prelude.{◌≡◌, ℕ, List, true, false, Option, Some, None}
use Rattle.am_record.specs.Asks.{locks_of}
use Rattle.am_record.specs.ByNumber.{RiseBy}
use Rattle.am_record.specs.Refusals.{is_one_too_many}
use Rattle.am_record.specs.declared.lock.Lock.{Lock}
use Rattle.am_store_locks.specs.OwnerLocks.{OwnerLocks}
use Rattle.am_store_locks.specs.declared.lock_answers.Asked.{Asked}
use Rattle.am_store_locks.specs.declared.lock_answers.Asked.TheVariants.{Granted, Busy, TooManyLocks, NoMemory}
use Rattle.am_law_serial.specs.Trace.{ops_of}
use Rattle.am_law_serial.specs.Machine.{Transaction, blocker, locks_in}

abbrev pub owner_of : Transaction → OwnerLocks
owner_of x = record { owner = x.0; locks = locks_of (ops_of x.1) }

-- each number is below all later ones
abbrev pub RiseByNumber : List Transaction → Type 0
RiseByNumber txs = RiseBy (λ (x : Transaction). x.0) txs

-- the lock is free and not one too many, or another transaction holds one that conflicts with it, or it is one too many
abbrev pub IsAnswerTo : List Transaction → ℕ → Option Lock → Asked → Type 0
IsAnswerTo txs t asked Granted = (blocker txs t asked ≡ None) × (is_one_too_many (locks_in txs t) asked ≡ false)
IsAnswerTo txs t asked (Busy h) = blocker txs t asked ≡ Some h
IsAnswerTo txs t asked TooManyLocks = (blocker txs t asked ≡ None) × (is_one_too_many (locks_in txs t) asked ≡ true)
IsAnswerTo txs t asked NoMemory = Unit {0}
