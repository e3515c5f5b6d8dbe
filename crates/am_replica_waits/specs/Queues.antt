-- Blocks that wait for their place in the log, and those that are on their way there.
use Rattle.std.specs.Prelude.{ℕ, ◌+◌, ◌==◌, leb, List, [], ◌∷◌, ◌++◌, take, drop, length, Bool, cond}
use Rattle.std.specs.Prelude.{Option, Some, None}
use Rattle.std.specs.List.{list_any}
use Rattle.am_replica_waits.specs.declared.queue.Waiting.{Waiting}
use Rattle.am_replica_waits.specs.declared.queue.Expired.{Expired}
use Rattle.am_replica_waits.specs.declared.queue.Expired.TheVariants.{Unreachable, Unknown}

-- the number that is given next; those that were handed over and are told nothing yet; and those that still wait
pub record QueueState : Type 0 where
  pub next : ℕ
  pub on_way : List Waiting
  pub waiting : List Waiting

-- one that nobody has entered: numbers are given from 1 on
abbrev pub new_queue : QueueState
new_queue = record { next = 1; on_way = []; waiting = [] }

-- whether one of these has the number
abbrev pub is_of : ℕ → List Waiting → Bool
is_of number ws = list_any (λ w. w.number == number) ws

-- these, without the one that has the number
abbrev pub all_but : ℕ → List Waiting → List Waiting
all_but number [] = []
all_but number (w ∷ ws) = cond (w.number == number) ws (w ∷ all_but number ws)

-- ---- what is done

-- it waits behind all others, under the next number
abbrev pub with_entered : ℕ → QueueState → QueueState
with_entered bytes q = record {
  next = q.next + 1;
  on_way = q.on_way;
  waiting = q.waiting ++ record { number = q.next; bytes = bytes } ∷ [];
}

-- behind so many bytes, as many as keep all within the limit
abbrev pub keeps_within : ℕ → ℕ → List Waiting → List Waiting
keeps_within limit size [] = []
keeps_within limit size (w ∷ ws) =
    cond (leb (size + w.bytes) limit) (w ∷ keeps_within limit (size + w.bytes) ws) []

-- the first one in any case, and as many further ones as keep all within the limit
abbrev pub first_within : ℕ → List Waiting → List Waiting
first_within limit [] = []
first_within limit (w ∷ ws) = w ∷ keeps_within limit w.bytes ws

-- those that go on their way together, at most so many
abbrev pub handed_together : ℕ → ℕ → QueueState → List Waiting
handed_together limit most q = first_within limit (take most q.waiting)

abbrev pub with_handed : ℕ → ℕ → QueueState → QueueState
with_handed limit most q = record {
  next = q.next;
  on_way = q.on_way ++ handed_together limit most q;
  waiting = drop (length (handed_together limit most q)) q.waiting;
}

-- it was on its way, and is gone
abbrev pub with_settled : ℕ → QueueState → QueueState
with_settled number q = record { next = q.next; on_way = all_but number q.on_way; waiting = q.waiting }

-- what is told where its time is over: nothing to who isn't there any more
abbrev pub expires_as : ℕ → QueueState → Option Expired
expires_as number q =
    cond (is_of number q.on_way) (Some Unknown) (cond (is_of number q.waiting) (Some Unreachable) None)

-- it is gone, wherever it was
abbrev pub with_expired : ℕ → QueueState → QueueState
with_expired number q =
    cond (is_of number q.on_way) (with_settled number q)
    (record { next = q.next; on_way = q.on_way; waiting = all_but number q.waiting })
