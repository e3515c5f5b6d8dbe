use Rattle.std.proofs.Common.{◌≡◌, ◌+◌, ◌≤◌, ◌++◌, reverse, vec_len}
use Rattle.std.specs.Vec.{vec_capacity}
use Rattle.am_index_btree.proofs.room.move_tail.Given as goal

abbrev pub invariant-loop-from : goal.invariant-loop-from
invariant-loop-from g l = record {
  joined : l.from.items ++ reverse l.to.items ≡ l.initial.from.items;
  lens : vec_len l.from + vec_len l.to ≡ vec_len l.initial.from;
  left : l.at ≤ vec_len l.from;
  capacity : (vec_capacity l.from ≡ vec_capacity l.initial.from) × (vec_capacity l.to ≡ vec_capacity l.initial.to);
}

abbrev pub decreases-loop-from : goal.decreases-loop-from
decreases-loop-from g l = vec_len l.from
