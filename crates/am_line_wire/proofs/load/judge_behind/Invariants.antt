use Rattle.std.proofs.Common.{◌≡◌, length}
use Rattle.am_line_wire.specs.LineReadings.{fault_behind}
use Rattle.am_line_wire.proofs.load.judge_behind.Given as goal

abbrev pub invariant-fields : goal.invariant-fields
invariant-fields l = fault_behind l.fn.fault l.fn.fields ≡ fault_behind l.fault l.fields

abbrev pub decreases-fields : goal.decreases-fields
decreases-fields l = length l.fields
