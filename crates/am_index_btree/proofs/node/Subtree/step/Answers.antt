use Rattle.std.proofs.Common.{subst, arith}
use Rattle.am_index_btree.specs.Nodes.{IsTree}
use Rattle.am_index_btree.proofs.Inner.{as_many, some_separators}
use Rattle.am_index_btree.proofs.node.Subtree.step.Goals as goal

pub index-requires : goal.index-requires
index-requires c =
    let inner = (subst IsTree c.in-Inner.is c.self.invariant).0 in
    omega (
      arith,
      as_many c.in-Inner.separators c.in-Inner.children.items _ inner,
      c.guess-at.ensures (omega (arith, some_separators c.in-Inner.separators c.in-Inner.children.items _ inner)),
      c.in-Inner.children.ok.0,
    )
