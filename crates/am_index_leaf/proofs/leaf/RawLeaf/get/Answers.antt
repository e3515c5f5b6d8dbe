use Rattle.std.proofs.Common.{get_or, sym, ap, ◌∙◌, arith}
use Rattle.am_index_leaf.proofs.Zips.{entry_of, entries_of-at}
use Rattle.am_index_leaf.proofs.Leaves.{alike, counted}
use Rattle.am_index_leaf.specs.LeafCode.{Seen}
use Rattle.am_index_leaf.proofs.leaf.RawLeaf.get.Goals as goal

pub returns : goal.returns
returns c =
    let a = c.self.inside in let held = c.self.invariant in let at = c.args.at in
    let e = entry_of c.get-part.result c.get.result c.has_bit.result in
    (λ j. entry_of (c.get-part.ensures.element j) (c.get.ensures.element j) (c.has_bit.ensures j))
    ∙ sym (entries_of-at a.places.items a.values.items a.ghosts at c.get-part.result c.get.result e (alike a held)
    (omega (arith, held.places, counted a held _ (ap (λ (s : Seen). s.entries) c.self.view_is), c.requires)))
    ∙ ap (λ l. get_or l at e) (ap (λ (s : Seen). s.entries) c.self.view_is)
