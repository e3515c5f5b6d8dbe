-- When sessions are cut once a stop was asked for.
use Rattle.std.specs.Prelude.{Bool, true, false, Option, Some, None, nat_le}
use Rattle.std.specs.Duration.{as_nanos}
use Rattle.std.specs.declared.time.Duration.{Duration}
use Rattle.am_serve_drain.specs.declared.drain.SinceStop.{SinceStop}
use Rattle.am_serve_drain.specs.declared.drain.SinceStop.TheVariants.{Unasked, Ago, Untold}

-- whether sessions are cut: where they have a grace, once it has passed since the stop, and where no clock tells that
abbrev pub is_over : Option Duration → SinceStop → Bool
is_over None since = false
is_over (Some grace) Unasked = false
is_over (Some grace) (Ago past) = nat_le (as_nanos grace) (as_nanos past)
is_over (Some grace) Untold = true
