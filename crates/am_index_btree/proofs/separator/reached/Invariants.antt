use Rattle.std.proofs.Common.{◌-◌, ◌≤◌, length}
use Rattle.am_index_btree.proofs.SeparatorReach.{AreReached}
use Rattle.am_index_btree.proofs.separator.reached.Given as goal

abbrev pub invariant-loop-reach : goal.invariant-loop-reach
invariant-loop-reach l = record {
  in_range : l.reach ≤ length l.separators;
  passed : AreReached (l.part, l.key) l.separators l.reach;
}

abbrev pub decreases-loop-reach : goal.decreases-loop-reach
decreases-loop-reach l = l.len - l.reach

abbrev pub invariant-loop-reach-2 : goal.invariant-loop-reach-2
invariant-loop-reach-2 l = record {
  in_range : l.reach ≤ length l.separators;
  passed : AreReached (l.part, l.key) l.separators l.reach;
}

abbrev pub decreases-loop-reach-2 : goal.decreases-loop-reach-2
decreases-loop-reach-2 l = l.len - l.reach
