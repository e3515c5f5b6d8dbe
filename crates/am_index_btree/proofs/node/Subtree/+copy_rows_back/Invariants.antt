use Rattle.std.proofs.Common.{◌≤◌, take, reverse, vec_capacity}
use Rattle.am_index.specs.Content.{rows_in}
use Rattle.am_index_btree.specs.Nodes.{all_entries}
use Rattle.am_index_btree.proofs.ChildWalks.{IsWalked}
use Rattle.am_index_btree.proofs.node.Subtree.+copy_rows_back.Given as goal

abbrev pub decreases-copy_rows_back : goal.decreases-copy_rows_back
decreases-copy_rows_back l = goal.size-copy_rows_back l

abbrev pub invariant-loop-at : goal.invariant-loop-at
invariant-loop-at l = record {
  walked : IsWalked l.fn.max l.fn.rows.items l.rows.items
      (reverse (rows_in (all_entries (take l.at l.children.items)) l.fn.part l.fn.range))
      (reverse (rows_in (all_entries l.children.items) l.fn.part l.fn.range));
  room : vec_capacity l.fn.rows ≤ vec_capacity l.rows;
}
