use Rattle.std.proofs.Common.{length}
use Rattle.am_store_runs.proofs.GroupOrders.{IsSettling}
use Rattle.am_store_runs.proofs.record_order.settled.Given as goal

abbrev pub invariant-loop-left : goal.invariant-loop-left
invariant-loop-left g l = IsSettling (g.S.RecordSource.records l.source) l.spots l.settled.items l.left

abbrev pub decreases-loop-left : goal.decreases-loop-left
decreases-loop-left g l = length l.left
