-- What was done to a queue, the newest first, and what came of it.
use Rattle.std.specs.Prelude.{ℕ, ◌+◌, ◌≤◌, ◌==◌, List, [], ◌∷◌, ◌++◌, Bool, true, false, cond}
use Rattle.std.specs.Prelude.{Option, Some, None}
use Rattle.am_replica_waits.specs.declared.queue.Waiting.{Waiting}
use Rattle.am_replica_waits.specs.declared.queue.Expired.{Expired}
use Rattle.am_replica_waits.specs.declared.queue.Expired.TheVariants.{Unreachable}
use Rattle.am_replica_waits.specs.Queues.{QueueState, new_queue, is_of, with_entered, handed_together, with_handed}
use Rattle.am_replica_waits.specs.Queues.{with_settled, expires_as, with_expired}

-- blocks of so many bytes come; some go on their way; a number is told what it came to; or its time is over
pub data QueueStep : Type 0 where
  Enters : ℕ → QueueStep
  Hands : ℕ → ℕ → QueueStep
  Settles : ℕ → QueueStep
  Expires : ℕ → QueueStep

abbrev pub queue_then : QueueStep → QueueState → QueueState
queue_then (Enters bytes) q = with_entered bytes q
queue_then (Hands limit most) q = with_handed limit most q
queue_then (Settles number) q = with_settled number q
queue_then (Expires number) q = with_expired number q

abbrev pub queue_after : List QueueStep → QueueState
queue_after [] = new_queue
queue_after (step ∷ before) = queue_then step (queue_after before)

-- ---- who was handed over

abbrev pub handed_at : QueueStep → QueueState → List Waiting
handed_at (Hands limit most) q = handed_together limit most q
handed_at step q = []

-- all that were, in the order in which they were
abbrev pub all_handed : List QueueStep → List Waiting
all_handed [] = []
all_handed (step ∷ before) = all_handed before ++ handed_at step (queue_after before)

-- each has a higher number than all before it
abbrev pub NumbersRise : ℕ → List Waiting → Type 0
NumbersRise low [] = Unit {0}
NumbersRise low (w ∷ ws) = (low ≤ w.number) × NumbersRise (w.number + 1) ws

-- ---- who was told

-- whoever has the number is told what it came to, or, where its time is over, what of it is known
pub record Telling : Type 0 where
  pub number : ℕ
  pub expired : Option Expired

abbrev pub told_settled : ℕ → QueueState → List Telling
told_settled number q = cond (is_of number q.on_way) (record { number = number; expired = None } ∷ []) []

abbrev pub told_expired : ℕ → Option Expired → List Telling
told_expired number None = []
told_expired number (Some how) = record { number = number; expired = Some how } ∷ []

abbrev pub told_by : QueueStep → QueueState → List Telling
told_by (Settles number) q = told_settled number q
told_by (Expires number) q = told_expired number (expires_as number q)
told_by step q = []

-- all that were, the newest first
abbrev pub all_told : List QueueStep → List Telling
all_told [] = []
all_told (step ∷ before) = told_by step (queue_after before) ++ all_told before

abbrev pub is_unreachable : Option Expired → Bool
is_unreachable (Some Unreachable) = true
is_unreachable how = false

abbrev pub same_teller : Telling → Telling → Bool
same_teller t u = t.number == u.number
