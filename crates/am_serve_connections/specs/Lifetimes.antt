-- What the lifetime of a server says of its seats and workers.
use Rattle.std.specs.Prelude.{ℕ, Bool, true, false}
use Rattle.am_serve_connections.specs.declared.turns.Upkeep.{Upkeep}
use Rattle.am_serve_connections.specs.declared.turns.Upkeep.TheVariants.{MergeOnly, MergeAndClean}
use Rattle.am_serve_connections.specs.declared.lifetime.Lifetime.{Lifetime}
use Rattle.am_serve_connections.specs.declared.lifetime.Lifetime.TheVariants.{Bounded, Staying}

-- how many sessions a seat serves at most
abbrev pub most_sessions : Lifetime → ℕ
most_sessions Bounded = 1
most_sessions Staying = 18446744073709551615

-- how many turns a worker has at most
abbrev pub most_turns : Lifetime → ℕ
most_turns Bounded = 1000000
most_turns Staying = 18446744073709551615

-- whether a worker cleans where nothing is left to merge, and above how many runs it merges what nobody asked for
abbrev pub upkeep_of : Lifetime → ℕ → Upkeep
upkeep_of Bounded runs = MergeOnly
upkeep_of Staying runs = MergeAndClean runs

-- whether it serves until it is stopped
abbrev pub stays : Lifetime → Bool
stays Bounded = false
stays Staying = true
