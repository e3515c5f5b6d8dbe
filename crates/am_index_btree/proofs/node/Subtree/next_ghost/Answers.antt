use Rattle.am_index_btree.proofs.ValueRooms.{tree_roomed}
use Rattle.am_index_btree.proofs.node.Subtree.next_ghost.Goals as goal

pub returns-clause-roomed : goal.returns-clause-roomed
returns-clause-roomed c = tree_roomed c.self.inside.node c.self.invariant c.args.self.now c.self.view_is
