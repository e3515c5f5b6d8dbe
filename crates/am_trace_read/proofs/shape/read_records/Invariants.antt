use Rattle.std.proofs.Common.{length}
use Rattle.am_trace_read.proofs.ReadRecords.{AreRead}
use Rattle.am_trace_read.proofs.shape.read_records.Given as goal

abbrev pub invariant-fields : goal.invariant-fields
invariant-fields l = AreRead l.version l.fn.fields l.items.items l.fields

abbrev pub decreases-fields : goal.decreases-fields
decreases-fields l = length l.fields
