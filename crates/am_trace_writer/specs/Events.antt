-- What events of a trace are counted.
use Rattle.std.specs.Prelude.{◌≡◌, ℕ, ◌+◌, min, List, Bool, true, false, length, count_by}
use Rattle.am_record.specs.declared.step.Step.{Step}
use Rattle.am_record.specs.declared.step.Reply.{Reply}
use Rattle.am_record.specs.declared.step.Reply.TheVariants.{Committed, Refused}
use Rattle.am_record.specs.declared.step.Refusal.TheVariants.{NoSuchTx, Busy, TooManyTx, TooManyLocks, TooManyOps}
use Rattle.am_record.specs.declared.step.Refusal.TheVariants.{TooManyRuns, NotRising, BadLimit}
use Rattle.am_trace_writer.specs.declared.events.TraceCounts.{TraceCounts}
use Rattle.am_trace_writer.specs.declared.events.EventCounts.{EventCounts}

-- a count of so many more, as far as 64 bits go
abbrev pub add_count : ℕ → ℕ → ℕ
add_count n more = min 18446744073709551615 (n + more)

-- a transaction committed
abbrev pub is_commit : Reply → Bool
is_commit (Committed c) = true
is_commit _ = false

-- a lock of another transaction was in the way
abbrev pub is_busy : Reply → Bool
is_busy (Refused (Busy tx)) = true
is_busy _ = false

-- a limit of transactions, locks, operations or runs was reached
abbrev pub is_too_many : Reply → Bool
is_too_many (Refused TooManyTx) = true
is_too_many (Refused TooManyLocks) = true
is_too_many (Refused TooManyOps) = true
is_too_many (Refused TooManyRuns) = true
is_too_many _ = false

-- the step asked for what isn't to be had: of a transaction that isn't active, of pairs that don't rise, of a limit
abbrev pub is_wrong : Reply → Bool
is_wrong (Refused NoSuchTx) = true
is_wrong (Refused NotRising) = true
is_wrong (Refused BadLimit) = true
is_wrong _ = false

-- how many of the events were answered so
abbrev pub count_events : (Reply → Bool) → List (Step × Reply) → ℕ
count_events is events = count_by (λ e. is e.1) events

-- so many of the events, as far as 64 bits go
abbrev pub count_to_max : (Reply → Bool) → List (Step × Reply) → ℕ
count_to_max is events = add_count 0 (count_events is events)

-- what was counted of these events
pub record AreEventCountsOf (events : List (Step × Reply)) (c : EventCounts) : Type 0 where
  pub commits : c.commits ≡ count_to_max is_commit events
  pub busy : c.busy ≡ count_to_max is_busy events
  pub too_many : c.too_many ≡ count_to_max is_too_many events
  pub wrong : c.wrong ≡ count_to_max is_wrong events

-- what is told of these events, of which so many came last
pub record AreTraceCountsOf (events : List (Step × Reply)) (kept : ℕ) (c : TraceCounts) : Type 0 where
  pub events_in_all : c.events ≡ add_count 0 (length events)
  pub kept_last : c.kept ≡ kept
  pub kinds : AreEventCountsOf events c.of
