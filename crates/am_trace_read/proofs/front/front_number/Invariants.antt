use Rattle.std.proofs.Common.{◌≤◌, ◌-◌, length}
use Rattle.am_trace_read.proofs.Fronts.{AreDigits}
use Rattle.am_trace_read.proofs.front.front_number.Given as goal

abbrev pub invariant-digits : goal.invariant-digits
invariant-digits l = record { read : AreDigits l.text l.end l.number; within : l.end ≤ length l.text; few : l.end ≤ 19 }

abbrev pub decreases-digits : goal.decreases-digits
decreases-digits l = length l.text - l.end
