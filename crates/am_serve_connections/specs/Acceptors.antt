-- What is done with what comes to an acceptor, and what a worker does that waits for its turn.
use Rattle.std.specs.Prelude.{ℕ, ◌+◌, ◌/◌, min, zero, suc, nat_lt, Bool, true, false, not, ◌&&◌, ◌||◌, if◌then◌else◌}
use Rattle.std.specs.Prelude.{Option, Some, None}
use Rattle.am_serve_connections.specs.declared.lifetime.Lifetime.{Lifetime}
use Rattle.am_serve_connections.specs.declared.lifetime.Lifetime.TheVariants.{Bounded, Staying}
use Rattle.am_serve_connections.specs.declared.acceptor.Came.{Came}
use Rattle.am_serve_connections.specs.declared.acceptor.Came.TheVariants.{Connection, Failure}
use Rattle.am_serve_connections.specs.declared.acceptor.Deed.{Deed}
use Rattle.am_serve_connections.specs.declared.pacer.Next.{Next}
use Rattle.am_serve_connections.specs.declared.pacer.Next.TheVariants as next
use Rattle.am_serve_connections.specs.declared.turns.Outlook.{Outlook}
use Rattle.am_serve_connections.specs.declared.turns.Outlook.TheVariants.{Nothing, Asked, More, Held}
use Rattle.am_serve_connections.specs.Lifetimes.{stays}
use Rattle.am_serve_connections.specs.declared.acceptor.Deed.TheVariants.{Serve, TurnAway, TryAgain, End}

-- What is done with what came to the acceptor, by whether a stop was asked for: a connection is served, and after a
-- stop it is turned away; after a failure a server that stays waits for a further one, and a bounded one takes none.
abbrev pub deed_of : {C : Type 0} → Lifetime → Came C → Bool → Deed C
deed_of lifetime (Connection connection) true = TurnAway connection
deed_of lifetime Failure true = End
deed_of lifetime (Connection connection) false = Serve connection
deed_of Staying Failure false = TryAgain
deed_of Bounded Failure false = End

-- whether no further connection is waited for: after a stop, and in a bounded server after a failure
abbrev pub is_closed : Lifetime → Bool → Bool → Bool
is_closed lifetime accepted_all is_stopped = is_stopped || (not accepted_all && not (stays lifetime))

-- whether a round of the drain ends where so many steps come after others: at each 1,024th
abbrev pub ends_round : ℕ → ℕ → Bool
ends_round before steps = nat_lt (before / 1024) (min 18446744073709551615 (before + steps) / 1024)

-- how many turns workers get for so many lines that were answered after others: one for each, and while they rest one
-- at each 1,024th
abbrev pub turns_for : Bool → ℕ → ℕ → ℕ
turns_for false before lines = lines
turns_for true before lines = if ends_round before lines then 1 else 0

-- what a worker does where so many sessions have not ended, and so many turns were taken of those that were given
abbrev pub next_of : ℕ → ℕ → ℕ → Next
next_of zero taken given = next.End
next_of (suc sessions) taken given = if nat_lt taken given then next.Take else next.Sleep

-- For how many milliseconds a worker lets answered lines give it its next turn before it takes one that none gave, by
-- what it saw and whether no line was answered since a worker saw that. None where it waits for a line.
abbrev pub pause_of : Outlook → Bool → Option ℕ
pause_of Nothing is_quiet = None
pause_of Asked is_quiet = None
pause_of More is_quiet = Some (if is_quiet then 0 else 10)
pause_of Held is_quiet = Some 100
