use Rattle.std.proofs.Common.{ap}
use Rattle.am_index_leaf.proofs.Ghosts.{any_ghost}
use Rattle.am_index_leaf.specs.LeafCode.{Seen}
use Rattle.am_index_leaf.proofs.leaf.RawLeaf.has_ghost.Goals as goal

pub returns : goal.returns
returns c = any_ghost c.self.inside c.self.invariant c.args.self.now.entries
    (ap (λ (s : Seen). s.entries) c.self.view_is)
