-- What a server passes on of a latch's trace when it closes the latch.
use Rattle.std.specs.Prelude.{◌≡◌, ℕ, List, ◌++◌, length}
use Rattle.am_law_serial.specs.Trace.{Trace}
use Rattle.am_latch.specs.Receipts.{SeatState}
use Rattle.am_trace_writer.specs.Events.{add_count}
use Rattle.am_serve.specs.ServerTraces.{IsTraceOf}
use Rattle.am_serve.specs.declared.server_trace.ServerTrace.{ServerTrace}

-- The latch was closed: after what was taken before stood a rest, which was passed on and counted, and all of it is
-- the trace of these seats.
pub record HasClosed {T : Type 0} (took : T → Trace → T → Type 0) (most_runs : ℕ) (seats : List SeatState)
    (before : Trace) (a : T) (m : ℕ) (s : ServerTrace T) : Type 0 where
  pub rest : Trace
  pub passed : took a rest s.pieces
  pub count : s.events ≡ add_count m (length rest)
  pub sound : IsTraceOf most_runs seats (before ++ rest) s.commits
