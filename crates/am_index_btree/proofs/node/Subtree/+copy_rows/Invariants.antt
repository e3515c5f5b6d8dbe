use Rattle.std.proofs.Common.{◌≤◌, drop, vec_capacity}
use Rattle.am_index.specs.Content.{rows_in}
use Rattle.am_index_btree.specs.Nodes.{all_entries}
use Rattle.am_index_btree.proofs.ChildWalks.{IsWalked}
use Rattle.am_index_btree.proofs.node.Subtree.+copy_rows.Given as goal

abbrev pub decreases-copy_rows : goal.decreases-copy_rows
decreases-copy_rows l = goal.size-copy_rows l

abbrev pub invariant-loop-at : goal.invariant-loop-at
invariant-loop-at l = record {
  walked : IsWalked l.fn.max l.fn.rows.items l.rows.items
      (rows_in (all_entries (drop l.at l.children.items)) l.fn.part l.fn.range)
      (rows_in (all_entries l.children.items) l.fn.part l.fn.range);
  room : vec_capacity l.fn.rows ≤ vec_capacity l.rows;
}
