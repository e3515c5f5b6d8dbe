use Rattle.am_latch.specs.Receipts.{NumberedBelow}
use Rattle.am_latch.proofs.latch_end.in_order.Given as goal

abbrev pub invariant-loop-number : goal.invariant-loop-number
invariant-loop-number g l = NumberedBelow l.seats l.number
