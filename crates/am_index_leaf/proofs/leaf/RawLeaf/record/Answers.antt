use Rattle.std.proofs.Common.{get_or, sym, ap, ◌∙◌, arith}
use Rattle.am_record.specs.declared.entry.Entry.{Entry}
use Rattle.am_index_leaf.proofs.Zips.{entries_of-at}
use Rattle.am_index_leaf.proofs.Leaves.{alike, counted}
use Rattle.am_index_leaf.specs.LeafCode.{Seen}
use Rattle.am_index_leaf.proofs.leaf.RawLeaf.record.Goals as goal

pub returns : goal.returns
returns c = λ d.
    let a = c.self.inside in let held = c.self.invariant in let at = c.args.at in
    (λ j. ((c.get-place.ensures.element j).1, c.get.ensures.element j))
    ∙ sym (ap (λ (e : Entry). (e.key, e.value)) (entries_of-at a.places.items a.values.items a.ghosts at
    c.get-place.result c.get.result d (alike a held)
    (omega (arith, held.places, counted a held _ (ap (λ (s : Seen). s.entries) c.self.view_is), c.requires))))
    ∙ ap (λ l. ((get_or l at d).key, (get_or l at d).value)) (ap (λ (s : Seen). s.entries) c.self.view_is)
