-- Connections that wait for a seat, the one that has waited longest first.
use Rattle.std.specs.Prelude.{ℕ, ◌-◌, nat_le, nat_lt, Bool, ◌||◌, if◌then◌else◌, List, [], ◌∷◌, drop, length}
use Rattle.std.specs.Prelude.{Option, Some, None, option_map, slice_get}
use Rattle.std.specs.declared.net.tcp.TcpStream.{TcpStream}
use Rattle.am_serve_connections.specs.declared.waiting.Waiting.{Waiting}

-- whether a connection that came in one round waits no longer in another: after a stop, and after eight rounds
abbrev pub waits_no_longer : ℕ → ℕ → Bool → Bool
waits_no_longer since round is_stopped = is_stopped || nat_le 8 (round - since)

-- who has waited longest
abbrev pub oldest_of : List Waiting → Option TcpStream
oldest_of line = option_map (λ w. w.stream) (slice_get line 0)

-- who goes next, of those that wait in a round: the one that has waited longest, where it is due
abbrev pub due_of : List Waiting → ℕ → Bool → Option TcpStream
due_of [] round is_stopped = None
due_of (first ∷ others) round is_stopped =
    if waits_no_longer first.since round is_stopped then Some first.stream else None

-- who waits then
abbrev pub still_waiting : List Waiting → ℕ → Bool → List Waiting
still_waiting [] round is_stopped = []
still_waiting (first ∷ others) round is_stopped =
    if waits_no_longer first.since round is_stopped then others else first ∷ others

-- who goes where one more comes: of 4,096 that wait the one that has waited longest
abbrev pub gone_of : List Waiting → Option TcpStream
gone_of line = if nat_lt (length line) 4096 then None else oldest_of line

-- who of them waits on
abbrev pub kept_of : List Waiting → List Waiting
kept_of line = if nat_lt (length line) 4096 then line else drop 1 line
