use Rattle.std.proofs.Common.{take}
use Rattle.std.specs.BinaryHeap.{heap_items}
use Rattle.am_store_scan.proofs.GatheredHeads.{AreHeadsOf}
use Rattle.am_store_scan.proofs.heads.heads_of.Given as goal

abbrev pub invariant-loop-at : goal.invariant-loop-at
invariant-loop-at g l =
    AreHeadsOf g.D.Direction.is_back l.parts.entries l.range (take l.at l.sources) (heap_items l.heads)
