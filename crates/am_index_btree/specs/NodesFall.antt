-- Each child of a node is less deep than the node.
use Rattle.std.specs.Prelude.{◌≤◌, max}
use Rattle.std.proofs.Common.{arith}
use Rattle.am_index_btree.specs.Nodes.{shape_of}
use Rattle.am_index_btree.specs.declared.node.Node.{Node}
use Rattle.am_index_btree.specs.declared.node.Node.TheVariants.{Leaf, Inner}
use Rattle.am_index_btree.specs.declared.node.Subtree.TheDeep.{deep-Node}

pub deep_le-depth : (n : Node) → max (deep-Node n) 0 ≤ (shape_of n).depth
deep_le-depth (Leaf l) = omega arith
deep_le-depth (Inner separators children marks) = omega arith
