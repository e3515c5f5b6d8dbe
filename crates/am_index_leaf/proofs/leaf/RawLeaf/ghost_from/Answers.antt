use Rattle.std.proofs.Common.{sym, ◌∙◌, arith, ap}
use Rattle.am_index_leaf.proofs.Ghosts.{no_ghost, ghost_within, ghost_is}
use Rattle.am_index_leaf.proofs.Leaves.{counted}
use Rattle.am_index_leaf.specs.LeafCode.{Seen}
use Rattle.am_index_leaf.proofs.leaf.RawLeaf.ghost_from.Goals as goal

pub next_bit-requires : goal.next_bit-requires
next_bit-requires c = omega (
  arith,
  c.requires,
  counted c.self.inside c.self.invariant _
      (ap (λ (s : Seen). s.entries) c.self.view_is),
  c.self.invariant.most,
)

pub returns-in_err-next : goal.returns-in_err-next
returns-in_err-next c = c.from_residual.ensures ∙
    sym (no_ghost c.self.inside c.self.invariant c.args.self.now.entries (ap (λ (s : Seen). s.entries) c.self.view_is)
    c.args.at c.in_err-next.ensures.none)

pub get-requires : goal.get-requires
get-requires c = ghost_within c.self.inside c.self.invariant c.args.self.now.entries
    (ap (λ (s : Seen). s.entries) c.self.view_is) c.args.at c.in_ok-next.next c.in_ok-next.ensures.first

pub returns : goal.returns
returns c = ghost_is c.self.inside c.self.invariant c.args.self.now.entries
    (ap (λ (s : Seen). s.entries) c.self.view_is) c.args.at c.in_ok-next.next c.get.result c.in_ok-next.ensures.first
    c.get.ensures
