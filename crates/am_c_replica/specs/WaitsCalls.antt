-- What a call does to those that wait behind a handle, by the contracts of am_replica_waits.
use Rattle.std.specs.Prelude.{◌≡◌, ℕ, ◌⊎◌, List, [], cond, Option, None, Some, option_map}
use Rattle.am_c_steps.specs.declared.status.Status.{Status}
use Rattle.am_c_steps.specs.declared.status.Status.TheVariants as is
use Rattle.am_c_steps.specs.Statuses.{status_code}
use Rattle.am_replica_waits.specs.declared.queue.Waiting.{Waiting}
use Rattle.am_replica_waits.specs.declared.queue.Expired.{Expired}
use Rattle.am_replica_waits.specs.declared.queue.Expired.TheVariants.{Unreachable, Unknown}
use Rattle.am_replica_waits.specs.declared.ends.Question.{Question}
use Rattle.am_replica_waits.specs.declared.waits.Waits.{Waits}
use Rattle.am_replica_waits.specs.Queues.{QueueState, new_queue, is_of, with_entered, handed_together, expires_as}
use Rattle.am_replica_waits.specs.Ends.{EndsState, no_ends, with_answered, has_reached}

-- the queue, or what is known of the log's end, is another one
abbrev pub queue_by : (QueueState → QueueState) → Waits → Waits
queue_by step w = record { queue = step w.queue; ends = w.ends }

abbrev pub ends_by : (EndsState → EndsState) → Waits → Waits
ends_by step w = record { queue = w.queue; ends = step w.ends }

-- whether there is a handle
abbrev pub waits_status : Option Waits → Status
waits_status None = is.NoStore
waits_status (Some w) = is.Fine

-- nobody waits and nothing is known where there was no handle, or memory is refused; where there is one, it stays
abbrev pub OpensWaits : Option Waits → ℕ → Option Waits → Type 0
OpensWaits (Some w) told held = (told ≡ status_code is.IsOpen) × (held ≡ Some w)
OpensWaits None told (Some w) = (told ≡ status_code is.Fine) × (w ≡ record { queue = new_queue; ends = no_ends })
OpensWaits None told None = told ≡ status_code is.NoMemory

-- blocks wait under the number that is told, or memory is refused
abbrev pub EntersWaits : ℕ → Option Waits → ℕ → ℕ → Option Waits → Type 0
EntersWaits bytes None told number held = (told ≡ status_code is.NoStore) × (number ≡ 0) × (held ≡ None)
EntersWaits bytes (Some w) told number held =
    ((told ≡ status_code is.Fine) × (number ≡ w.queue.next) × (held ≡ Some (queue_by (with_entered bytes) w)))
    ⊎ ((told ≡ status_code is.NoMemory) × (number ≡ 0) × (held ≡ Some w))

-- a question was answered, or memory is refused
abbrev pub AnswersWaits : Question → Option Waits → ℕ → Option Waits → Type 0
AnswersWaits question None told held = (told ≡ status_code is.NoStore) × (held ≡ None)
AnswersWaits question (Some w) told held =
    ((told ≡ status_code is.Fine) × (held ≡ Some (ends_by (with_answered question) w)))
    ⊎ ((told ≡ status_code is.NoMemory) × (held ≡ Some w))

-- those that go on their way
abbrev pub handed_waits : ℕ → ℕ → Option Waits → List Waiting
handed_waits limit room None = []
handed_waits limit room (Some w) = handed_together limit room w.queue

-- whether it was on its way
abbrev pub settled_status : ℕ → Option Waits → Status
settled_status number None = is.NoStore
settled_status number (Some w) = cond (is_of number w.queue.on_way) is.Fine is.Absent

-- what is told whose time is over
abbrev pub ended_status : Option Expired → Status
ended_status None = is.Absent
ended_status (Some Unreachable) = is.Unreachable
ended_status (Some Unknown) = is.Unknown

abbrev pub expired_status : ℕ → Option Waits → Status
expired_status number None = is.NoStore
expired_status number (Some w) = ended_status (expires_as number w.queue)

-- the newest moment whose end of the log is applied
abbrev pub known_told : Option Waits → ℕ
known_told None = 0
known_told (Some w) = w.ends.known

-- 1 where a read that began at the moment may be answered
abbrev pub reached_told : ℕ → Option Waits → ℕ
reached_told begun None = 0
reached_told begun (Some w) = cond (has_reached begun w.ends) 1 0
