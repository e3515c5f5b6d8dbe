use Rattle.std.proofs.Common.{drop}
use Rattle.am_index_btree.specs.Seek.{all_such}
use Rattle.am_index_btree.specs.Nodes.{all_entries}
use Rattle.am_index_btree.proofs.ChildWalks.{IsWalked}
use Rattle.am_index_btree.proofs.node.Subtree.+read_on.Given as goal

abbrev pub decreases-read_on : goal.decreases-read_on
decreases-read_on l = goal.size-read_on l

abbrev pub invariant-loop-at : goal.invariant-loop-at
invariant-loop-at l = IsWalked 16 l.fn.batch l.batch
    (all_such l.fn.start (all_entries (drop l.at l.children.items)) l.fn.part l.fn.key)
    (all_such l.fn.start (all_entries l.children.items) l.fn.part l.fn.key)
