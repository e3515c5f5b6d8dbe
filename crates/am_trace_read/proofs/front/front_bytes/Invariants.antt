use Rattle.std.proofs.Common.{◌≡◌, ◌++◌, length}
use Rattle.am_trace_text.specs.Words.{hex}
use Rattle.am_trace_text.specs.Bounds.{IsByteList}
use Rattle.am_trace_read.proofs.front.front_bytes.Given as goal

abbrev pub invariant-sixteens : goal.invariant-sixteens
invariant-sixteens l = record { read : l.text ≡ hex l.bytes.items ++ l.rest; are_bytes : IsByteList l.bytes.items }

abbrev pub decreases-sixteens : goal.decreases-sixteens
decreases-sixteens l = length l.rest

abbrev pub invariant-pairs : goal.invariant-pairs
invariant-pairs l = record { read : l.text ≡ hex l.bytes.items ++ l.rest; are_bytes : IsByteList l.bytes.items }

abbrev pub decreases-pairs : goal.decreases-pairs
decreases-pairs l = length l.rest
