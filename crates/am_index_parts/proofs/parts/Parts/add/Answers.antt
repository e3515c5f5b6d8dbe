use Rattle.std.proofs.Common.{refl, sym, ap, subst, arith}
use Rattle.am_index_parts.specs.ApartRuns.{AreInOrder}
use Rattle.am_index_parts.specs.Partitions.{Partitions}
use Rattle.am_index_parts.specs.declared.apart_runs.ApartRuns.{ApartRuns}
use Rattle.am_index_parts.proofs.CatalogCalls.{ok_map}
use Rattle.am_index_parts.proofs.Changes.{adds, adds_sound}
use Rattle.am_index_parts.proofs.KnownKeys.{known_more, known_where_added}
use Rattle.am_index_parts.proofs.MergedKnowledge.{merged_where_added}
use Rattle.am_index_parts.proofs.parts.Parts.add.Goals as goal

pub insert_or_forget-requires-clause-counted : goal.insert_or_forget-requires-clause-counted
insert_or_forget-requires-clause-counted g c = c.in_ok-add.ensures.ok _ c.args.entry refl refl c.self.invariant.2

pub invariant_of-self-2 : goal.invariant_of-self-2
invariant_of-self-2 g c = (
  adds_sound (ap (λ (p : Partitions). p.entries) c.self.view_is) c.self.invariant.0 c.args.entry (omega arith)
      c.requires.absent c.requires.dead c.insert_or_forget.result c.insert_or_forget.ensures.ok
      c.insert_or_forget.ensures.err,
  c.self.invariant.1,
  c.insert_or_forget.ensures.catalog,
  known_where_added c.make_room_for.new.self (g.I.PartIndex.entries c.self.inside.index)
      (g.I.PartIndex.entries c.insert_or_forget.new.index) c.args.entry c.insert_or_forget.result
      c.in_ok-make_room_for.ensures.entered c.insert_or_forget.ensures.ok c.insert_or_forget.ensures.err
      (known_more (g.I.PartIndex.entries c.self.inside.index) c.self.inside.keys c.make_room_for.new.self
      (subst (λ (a : ApartRuns). AreInOrder a.list.items) (sym c.make_room_for.ensures.apart))
      c.make_room_for.ensures.kept c.self.invariant.3),
  merged_where_added (g.I.PartIndex.entries c.self.inside.index) (g.I.PartIndex.entries c.insert_or_forget.new.index)
      c.self.inside.runs c.args.entry c.self.inside.merged.list.items c.add-2.new.self.list.items
      c.insert_or_forget.result
      c.add-2.ensures.kept c.add-2.ensures.let_go c.insert_or_forget.ensures.ok c.insert_or_forget.ensures.err
      c.self.invariant.4,
  c.insert_or_forget.ensures.rooms.have,
)

pub invariant_of-self : goal.invariant_of-self
invariant_of-self g c = (
  c.self.invariant.0,
  c.self.invariant.1,
  c.self.invariant.2,
  known_more (g.I.PartIndex.entries c.self.inside.index) c.self.inside.keys c.make_room_for.new.self
      (subst (λ (a : ApartRuns). AreInOrder a.list.items) (sym c.make_room_for.ensures.apart))
      c.make_room_for.ensures.kept c.self.invariant.3,
  c.self.invariant.4,
  c.self.invariant.5,
)

pub invariant_of-self-in_err-add : goal.invariant_of-self-in_err-add
invariant_of-self-in_err-add g c = (
  c.self.invariant.0,
  c.self.invariant.1,
  c.in_err-add.ensures.err _ c.self.invariant.2,
  known_more (g.I.PartIndex.entries c.self.inside.index) c.self.inside.keys c.make_room_for.new.self
      (subst (λ (a : ApartRuns). AreInOrder a.list.items) (sym c.make_room_for.ensures.apart))
      c.make_room_for.ensures.kept c.self.invariant.3,
  c.self.invariant.4,
  c.self.invariant.5,
)

pub returns-clause-content : goal.returns-clause-content
returns-clause-content g c =
    ok_map c.insert_or_forget.result (λ is. (adds (ap (λ (p : Partitions). p.entries) c.self.view_is) c.self.invariant.0
    c.args.entry (omega arith) c.requires.absent c.requires.dead is).has) c.insert_or_forget.ensures.ok
