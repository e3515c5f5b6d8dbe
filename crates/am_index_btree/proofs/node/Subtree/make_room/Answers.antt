use Rattle.am_index_btree.proofs.ValueRooms.{tree_roomed}
use Rattle.am_index_btree.proofs.WiderRooms.{unchanged}
use Rattle.am_index_btree.proofs.node.Subtree.make_room.Goals as goal

pub returns-then-bytes-le-SHORT_LEN-clause-widened : goal.returns-then-bytes-le-SHORT_LEN-clause-widened
returns-then-bytes-le-SHORT_LEN-clause-widened c = unchanged c.args.self.now
    (tree_roomed c.self.inside.node c.self.invariant c.args.self.now c.self.view_is)
