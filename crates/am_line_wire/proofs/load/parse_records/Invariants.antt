use Rattle.std.proofs.Common.{◌≡◌, length}
use Rattle.am_line_wire.specs.Shapes.{some_records}
use Rattle.am_line_wire.specs.LineReadings.{values_in}
use Rattle.am_line_wire.proofs.Loads.{due_with}
use Rattle.am_line_wire.proofs.load.parse_records.Given as goal

abbrev pub invariant-fields : goal.invariant-fields
invariant-fields l = values_in some_records l.fn.fields ≡ due_with l.items.items l.fields

abbrev pub decreases-fields : goal.decreases-fields
decreases-fields l = length l.fields
