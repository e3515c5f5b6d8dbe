use Rattle.std.proofs.Common.{◌-◌, ◌≤◌, length, take, drop}
use Rattle.am_index.specs.Places.{AllBelow, AllAbove}
use Rattle.am_index_leaf.proofs.leaf.RawLeaf.find.Given as goal

-- below `low` stand entries below the place, and from `high` on entries above it
abbrev pub invariant-loop-low : goal.invariant-loop-low
invariant-loop-low l = record {
  ordered : l.low ≤ l.high;
  in_range : l.high ≤ length l.self.entries;
  below : AllBelow (l.part, l.key) (take l.low l.self.entries);
  above : AllAbove (l.part, l.key) (drop l.high l.self.entries);
}

abbrev pub decreases-loop-low : goal.decreases-loop-low
decreases-loop-low l = l.high - l.low
