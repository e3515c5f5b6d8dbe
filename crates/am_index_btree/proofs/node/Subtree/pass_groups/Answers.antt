use Rattle.std.proofs.Common.{subst}
use Rattle.am_index_btree.specs.Nodes.{IsTree}
use Rattle.am_index_btree.proofs.Inner.{they_rise}
use Rattle.am_index_btree.proofs.node.Subtree.pass_groups.Goals as goal

pub pass_groups-requires-in-Inner : goal.pass_groups-requires-in-Inner
pass_groups-requires-in-Inner c =
    they_rise c.in-Inner.separators c.in-Inner.field-1.items _ (subst IsTree c.in-Inner.is c.self.invariant).0
