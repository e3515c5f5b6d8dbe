use Rattle.std.proofs.Common.{◌≤◌, ◌-◌, ◌+◌, ◌*◌, ◌≡◌, cond, length, vec_capacity}
use Rattle.std.specs.Prelude.{option_copied}
use Rattle.am_index_btree.specs.Ghosts.{marks_of}
use Rattle.am_index_btree.proofs.Stretches.{IsAddedSoFar}
use Rattle.am_index_btree.proofs.node.Subtree.+insert_among.Given as goal

abbrev pub decreases-insert_among : goal.decreases-insert_among
decreases-insert_among l = goal.size-insert_among l

abbrev pub invariant-stretch : goal.invariant-stretch
invariant-stretch l = record {
  range : l.added ≤ length l.fn.more;
  so_far : IsAddedSoFar l.fn.self (option_copied l.fn.bound) l.fn.more l.separators l.children.items
      (vec_capacity l.children) l.added;
  marked : l.marks ≡ marks_of l.children.items;
}

abbrev pub decreases-stretch : goal.decreases-stretch
decreases-stretch l = 2 * (length l.fn.more - l.added) + cond l.goes_on 1 0
