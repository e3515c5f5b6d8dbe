use Rattle.std.proofs.Common.{sym, subst, ap}
use Rattle.std.specs.Prelude.{IsSome}
use Rattle.am_index.specs.Entries.{find, set_entry}
use Rattle.am_index_parts.specs.Catalogs.{IsCatalog}
use Rattle.am_index_parts.specs.MergedRanges.{AreMerged}
use Rattle.am_index_parts.specs.Partitions.{Partitions}
use Rattle.am_index_parts.specs.RunKeys.{AreKnown}
use Rattle.am_index_parts.proofs.Changes.{marks}
use Rattle.am_index_parts.proofs.MergedKnowledge.{merged_set}
use Rattle.am_index_parts.proofs.parts.Parts.set.Goals as goal

pub invariant_of-self : goal.invariant_of-self
invariant_of-self g c =
    let there : IsSome (find (g.I.PartIndex.entries c.self.inside.index) c.args.part c.args.key) =
    subst (λ (p : Partitions). IsSome (find p.entries c.args.part c.args.key)) (sym c.self.view_is)
    c.requires.present in
    let counted : IsCatalog (set_entry (g.I.PartIndex.entries c.self.inside.index) c.args.part c.args.key c.args.value
    c.args.is_ghost) c.mark.new.self = c.mark.ensures _ c.args.key c.args.value c.self.invariant.2 there
    (sym c.set-was_live.ensures.was_live) in (
      (marks (ap (λ (p : Partitions). p.entries) c.self.view_is) c.self.invariant.0 c.args.part c.args.key c.args.value
          c.args.is_ghost c.requires.present c.requires.alone c.set-was_live.ensures.set).sound,
      c.self.invariant.1,
      subst (λ es. IsCatalog es c.mark.new.self) (sym c.set-was_live.ensures.set) counted,
      subst (λ es. AreKnown es c.set.new.self) (sym c.set-was_live.ensures.set)
          (c.set.ensures (g.I.PartIndex.entries c.self.inside.index) c.args.key c.args.value there
          c.set-was_live.ensures.was_live counted c.self.invariant.3),
      subst (λ es. AreMerged es c.self.inside.runs c.self.inside.merged.list.items) (sym c.set-was_live.ensures.set)
          (merged_set (g.I.PartIndex.entries c.self.inside.index) c.self.inside.runs c.args.part c.args.key c.args.value
          c.args.is_ghost c.self.inside.merged.list.items c.self.invariant.4),
      c.set-was_live.ensures.rooms.have,
    )

pub returns-clause-content : goal.returns-clause-content
returns-clause-content g c = (marks (ap (λ (p : Partitions). p.entries) c.self.view_is) c.self.invariant.0 c.args.part
    c.args.key c.args.value c.args.is_ghost c.requires.present c.requires.alone c.set-was_live.ensures.set).has

pub set-requires : goal.set-requires
set-requires g c =
    let there : IsSome (find (g.I.PartIndex.entries c.self.inside.index) c.args.part c.args.key) =
    subst (λ (p : Partitions). IsSome (find p.entries c.args.part c.args.key)) (sym c.self.view_is)
    c.requires.present in (
      set_entry (g.I.PartIndex.entries c.self.inside.index) c.args.part c.args.key c.args.value c.args.is_ghost,
      c.mark.ensures _ c.args.key c.args.value c.self.invariant.2 there
          (sym c.set-was_live.ensures.was_live),
    )
