-- What a drain has passed on of a latch's trace.
use Rattle.std.specs.Prelude.{◌≡◌, ℕ, ◌++◌, length}
use Rattle.am_law_serial.specs.Trace.{Trace}
use Rattle.am_trace_writer.specs.Events.{add_count}

-- By what a latch's taker took before and after, by who takes the pieces, and by the count of events: some events more
-- were taken, passed on and counted.
pub record HasTaken {T : Type 0} (took : T → Trace → T → Type 0) (before : Trace) (a : T) (m : ℕ) (after : Trace)
    (b : T) (n : ℕ) : Type 0 where
  pub piece : Trace
  pub longer : after ≡ before ++ piece
  pub passed : took a piece b
  pub count : n ≡ add_count m (length piece)
