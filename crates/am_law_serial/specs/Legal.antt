-- When a trace is right as far as it can be judged without the store: formed, right in its Busy answers, and serial.
use Rattle.std.specs.Prelude.{ℕ, []}
use Rattle.am_law_serial.specs.Trace.{Trace, IsSerial, AtEachMoment}
use Rattle.am_law_serial.specs.Sound.{FormedAt, BusyRightAt, EachEvent}

-- of a store that makes so many runs at most; what is still active may have read anything
pub record IsLegal (most_runs : ℕ) (trace : Trace) : Type 0 where
  pub formed : EachEvent (FormedAt most_runs) [] trace
  pub busy : EachEvent (BusyRightAt most_runs) [] trace
  pub serial : AtEachMoment IsSerial [] trace
