use Rattle.std.proofs.Common.{length}
use Rattle.am_record_model.proofs.Above.{Above}
use Rattle.am_record_model.proofs.log.take_back_above.Given as goal

abbrev pub invariant-loop-notes : goal.invariant-loop-notes
invariant-loop-notes l = Above l.fn.records l.fn.notes.items l.mark l.notes.items l.records

abbrev pub decreases-loop-notes : goal.decreases-loop-notes
decreases-loop-notes l = length l.notes.items
