-- What is told of the sessions that are served.
use Rattle.std.specs.Prelude.{◌≡◌, ℕ, zero, suc, ◌-◌, ◌/◌, nat_lt, List, map, Option, Some, None, if◌then◌else◌}
use Rattle.am_serve_connections.specs.Turnstiles.{mark_number, standing_of}
use Rattle.am_serve_connections.specs.declared.line.Holder.{Holder}
use Rattle.am_serve_connections.specs.declared.line.Waiter.{Waiter}
use Rattle.am_serve_connections.specs.declared.connections.ServedSession.{ServedSession}
use Rattle.am_serve_connections.specs.declared.connections.IdleSession.{IdleSession}
use Rattle.am_serve_connections.specs.declared.line.Standing.TheVariants.{Free}

-- its number, its transaction, if one is active, and the whole seconds since its last line
abbrev pub session_seen : ℕ → ℕ → ℕ → ℕ → ServedSession
session_seen session mark heard_at now = record {
  session = session;
  tx = mark_number mark;
  seconds = (now - heard_at) / 1000;
  standing = Free;
}

-- it, with how it stands at a turnstile
abbrev pub with_standing : Option Holder → List Waiter → ServedSession → ServedSession
with_standing holder waiting served = record served { standing = standing_of holder waiting served.session }

-- one look at a turnstile told how all of these stand
abbrev pub AreToldAtOnce : List ServedSession → List ServedSession → Type 0
AreToldAtOnce served told = (holder : Option Holder) × (waiting : List Waiter) ×
    (told ≡ map (with_standing holder waiting) served)

-- A session may make way for another that has no transaction, and from which no line came for longer than the limit.
abbrev pub idle_of : ℕ → ℕ → ℕ → ℕ → Option IdleSession
idle_of place zero millis limit = if nat_lt limit millis then Some (record { place = place; millis = millis }) else None
idle_of place (suc tx) millis limit = None

-- the one of two that was idle longer, and the first where both were as long
abbrev pub longer_idle : Option IdleSession → Option IdleSession → Option IdleSession
longer_idle None other = other
longer_idle (Some first) None = Some first
longer_idle (Some first) (Some second) = if nat_lt first.millis second.millis then Some second else Some first
