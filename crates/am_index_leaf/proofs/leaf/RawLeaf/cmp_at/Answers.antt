use Rattle.std.proofs.Common.{get_or, sym, ap, ◌∙◌, arith}
use Rattle.std.specs.Ordering.{ordering_then}
use Rattle.am_record.specs.EntryOrder.{Place, place_of, place_cmp}
use Rattle.am_index_leaf.proofs.Zips.{entries_of-at}
use Rattle.am_index_leaf.proofs.Leaves.{alike, counted}
use Rattle.am_index_leaf.specs.LeafCode.{Seen}
use Rattle.am_index_leaf.proofs.leaf.RawLeaf.cmp_at.Goals as goal

pub returns : goal.returns
unfolding place_cmp
returns c = λ d.
    let a = c.self.inside in let held = c.self.invariant in let at = c.args.at in
    let p : Place = (c.args.part, c.args.key) in
    let here = entries_of-at a.places.items a.values.items a.ghosts at c.get-place.result d.value d (alike a held)
    (omega (arith, held.places, counted a held _ (ap (λ (s : Seen). s.entries) c.self.view_is), c.requires)) in
    let seen = sym (ap (λ l. get_or l at d) (ap (λ (s : Seen). s.entries) c.self.view_is)) ∙ here in
    c.then.ensures ∙ (λ j. ordering_then (c.cmp.ensures j) (c.cmp-2.ensures j)) ∙
    ap (λ q. place_cmp q p) c.get-place.ensures.element ∙ sym (ap (λ e. place_cmp (place_of e) p) seen)
