use Rattle.std.proofs.Common.{sym, ap, subst}
use Rattle.am_index_leaf.proofs.Leaves.{counted}
use Rattle.am_index_leaf.proofs.FittingValues.{entries_fit}
use Rattle.am_index_leaf.specs.LeafCode.{Seen, ValuesHaveRoom}
use Rattle.am_index_leaf.proofs.leaf.RawLeaf.len.Goals as goal

pub returns-clause-all : goal.returns-clause-all
returns-clause-all c = sym (counted c.self.inside c.self.invariant _ (ap (λ (s : Seen). s.entries) c.self.view_is))

pub returns-clause-room : goal.returns-clause-room
returns-clause-room c =
    let a = c.self.inside in
    subst ValuesHaveRoom c.self.view_is (record {
      kind = c.room.ensures.kind;
      none_longer = entries_fit a.values.room a.places.items a.values.items a.ghosts c.self.invariant.fit;
    })
