-- What is told of a server while it runs.
use Rattle.std.specs.Prelude.{◌≡◌, ℕ, ◌+◌, length, Bool}
use Rattle.am_law_serial.specs.Trace.{Trace}
use Rattle.am_latch_engine.specs.Sizes.{AreFiguresAt}
use Rattle.am_serve_connections.specs.declared.session_counters.SessionCounts.{SessionCounts}
use Rattle.am_trace_writer.specs.Events.{AreTraceCountsOf}
use Rattle.am_serve_drain.specs.declared.counts.ServerCounts.{ServerCounts}

-- After the events that were taken, of which so many came last, this is told of them, and how large the store is to
-- which they lead. What its sessions are is told as it is given.
pub record AreCountsBehind (taken : Trace) (sessions : SessionCounts) (kept : ℕ) (is_cut : Bool) (c : ServerCounts) :
    Type 0 where
  pub of_sessions : c.sessions ≡ sessions
  pub of_trace : AreTraceCountsOf taken kept c.trace
  pub of_index : ∥ AreFiguresAt taken c.index ∥₁
  pub loss : c.is_cut ≡ is_cut

-- The watcher looked once, after the events that were taken then: what it was told is what `AreCountsBehind` has of
-- all that were taken, of which those came last that weren't taken before.
pub record Looked {V : Type 0} (saw : V → ServerCounts → Bool → V → Type 0) (old : V) (before after : Trace)
    (is_cut : Bool) (is_last : Bool) (new : V) : Type 0 where
  pub sessions : SessionCounts
  pub kept : ℕ
  pub counts : ServerCounts
  pub came : length after ≡ length before + kept
  pub told : AreCountsBehind after sessions kept is_cut counts
  pub looked : saw old counts is_last new
