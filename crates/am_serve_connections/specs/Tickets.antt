-- Tickets of transactions: who gets one, and how long one waits for it.
use Rattle.std.specs.Prelude.{ℕ, ◌+◌, ◌-◌, ◌==◌, min, nat_le, nat_lt, Bool, true, false, not, if◌then◌else◌}
use Rattle.std.specs.Prelude.{List, drop, filter, Option, Some, None, slice_get}
use Rattle.am_serve_connections.specs.declared.line.Waiter.{Waiter}

-- whether one more is free where so many are taken
abbrev pub has_free : ℕ → Bool
has_free taken = nat_lt taken 64

-- who gets the next one, by whether anybody holds: nobody then, and else who has waited longest, where one is free
abbrev pub served_of : Bool → ℕ → List Waiter → Option Waiter
served_of true taken waiting = None
served_of false taken waiting = if has_free taken then slice_get waiting 0 else None

-- who waits then
abbrev pub unserved_of : Bool → ℕ → List Waiter → List Waiter
unserved_of true taken waiting = waiting
unserved_of false taken waiting = if has_free taken then drop 1 waiting else waiting

-- who waits where one at this place doesn't any more
abbrev pub without : ℕ → List Waiter → List Waiter
without place waiting = filter (λ (w : Waiter). not (w.place == place)) waiting

-- by when one gives up that waits: after a second in which nobody holds
abbrev pub patience_end : Bool → ℕ → ℕ → ℕ
patience_end true now end = min 18446744073709551615 (now + 1000000)
patience_end false now end = end

-- how long it waits on: not at all once its time is over
abbrev pub time_left : ℕ → ℕ → Option ℕ
time_left now end = if nat_le end now then None else Some (end - now)
