use Rattle.std.proofs.Common.{◌≡◌, ◌≤◌, ◌++◌, ◌-◌, take, drop}
use Rattle.am_index_btree.proofs.remove.cut.Given as goal

abbrev pub invariant-loop-at : goal.invariant-loop-at
invariant-loop-at l = record {
  low : l.from ≤ l.at;
  high : l.at ≤ l.to;
  entries : l.leaf.entries ≡ take l.at l.initial.leaf.entries ++ drop l.to l.initial.leaf.entries;
  same_room : l.leaf.value_room ≡ l.initial.leaf.value_room;
}

abbrev pub decreases-loop-at : goal.decreases-loop-at
decreases-loop-at l = l.at - l.from
