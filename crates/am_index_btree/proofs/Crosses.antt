-- A tree may go to another thread.
use Rattle.std.proofs.Crossing.{crosses}
use denote.Param.Send.{IsSend, sendable}
use Rattle.am_index_leaf.proofs.leaf.RawLeaf.TheSendSync as leaf
use Rattle.am_index_btree.specs.contracts.btree.BTree as BTree
use Rattle.am_index_btree.proofs.node.Subtree.TheLaws.TheKnot as knot
use Rattle.am_index_btree.proofs.separator.Separator.TheSendSync as separator

pub tree_send : IsSend BTree.the_row
tree_send = search (crosses, knot.crosses, sendable, separator.the_field_send, leaf.the_send) depth 60
