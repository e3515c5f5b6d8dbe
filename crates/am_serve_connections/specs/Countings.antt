-- What is told of a server's sessions.
use Rattle.std.specs.Prelude.{◌≡◌, ◌≢◌, ℕ, ◌-◌, ℤ, pos, Some, None}
use Rattle.am_serve_connections.specs.declared.session_counters.SessionCounts.{SessionCounts}

-- so many sessions began, and those of them are open that have not ended; so many connections were refused, the first
-- with this number, or with none where it is 0
pub record IsToldOf (begun ended refused : ℕ) (first_refusal : ℤ) (c : SessionCounts) : Type 0 where
  pub began : c.begun ≡ begun
  pub not_ended : c.open ≡ begun - ended
  pub not_accepted : c.refused_by_system ≡ refused
  pub unknown : first_refusal ≡ pos 0 → c.first_refusal ≡ None
  pub known : first_refusal ≢ pos 0 → c.first_refusal ≡ Some first_refusal
