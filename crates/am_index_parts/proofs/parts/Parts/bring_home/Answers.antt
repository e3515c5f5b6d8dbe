use Rattle.std.proofs.Common.{◌++◌, List, take, drop, inl, inr, ⊎_elim, sym, ap, ◌∙◌, subst}
use Rattle.std.specs.Prelude.{IsSome}
use Rattle.am_record.specs.EntryOrder.{Place}
use Rattle.am_record.specs.declared.entry.Entry.{Entry}
use Rattle.am_index.specs.Content.{content, HasContent}
use Rattle.am_index.specs.Entries.{find, IsRising}
use Rattle.am_index.specs.Rooms.{KeepRoom}
use Rattle.am_index.proofs.Rooms.{keep_on}
use Rattle.am_index_parts.specs.Catalogs.{IsCatalog}
use Rattle.am_index_parts.specs.MergedRanges.{AreMerged}
use Rattle.am_index_parts.specs.Partitions.{Partitions, AreWellFormed, IsStretch, FirstNeedsRoom, all_gone_home}
use Rattle.am_index_parts.specs.RunKeys.{AreKnown}
use Rattle.am_index_parts.proofs.Neighbours.{front_then, back_then, settled_is, settled_rise, home_is, at_home}
use Rattle.am_index_parts.proofs.Neighbours.{merged_all_home, needs_before}
use Rattle.am_index_parts.proofs.KnownKeys.{known_home}
use Rattle.am_index_parts.proofs.StandingEntries.{between}
use Rattle.am_index_parts.proofs.parts.Parts.bring_home.Goals as goal

pub remove_all-requires-clause-stand : goal.remove_all-requires-clause-stand
remove_all-requires-clause-stand g c =
    let es = g.I.PartIndex.entries c.self.inside.index in let xs = c.args.entries.now in
    let n = c.settle_all-count.result in let le = c.settle_all-count.ensures.most in
    let same = ap (λ (p : Partitions). p.entries) c.self.view_is in let sound = c.self.invariant.0 in
    let stretch = subst (λ (l : List Entry). IsStretch l xs) (sym same) c.requires in
    let settles = c.settle_all-count.ensures.settled ∙ settled_is sound xs stretch n le in
    (front_then sound xs stretch n le, back_then sound xs stretch n le, settles)

pub remove_all-requires-clause-rising : goal.remove_all-requires-clause-rising
remove_all-requires-clause-rising g c =
    let es = g.I.PartIndex.entries c.self.inside.index in let xs = c.args.entries.now in
    let n = c.settle_all-count.result in let le = c.settle_all-count.ensures.most in
    let same = ap (λ (p : Partitions). p.entries) c.self.view_is in let sound = c.self.invariant.0 in
    let stretch = subst (λ (l : List Entry). IsStretch l xs) (sym same) c.requires in
    let settles = c.settle_all-count.ensures.settled ∙ settled_is sound xs stretch n le in
    subst IsRising (sym settles) (settled_rise sound xs stretch n le)

pub forget_all-requires : goal.forget_all-requires
forget_all-requires g c =
    let es = g.I.PartIndex.entries c.self.inside.index in let xs = c.args.entries.now in
    let n = c.settle_all-count.result in let le = c.settle_all-count.ensures.most in
    let same = ap (λ (p : Partitions). p.entries) c.self.view_is in let sound = c.self.invariant.0 in
    let stretch = subst (λ (l : List Entry). IsStretch l xs) (sym same) c.requires in
    let settles = c.settle_all-count.ensures.settled ∙ settled_is sound xs stretch n le in (
      front_then sound xs stretch n le,
      back_then sound xs stretch n le,
      settled_rise sound xs stretch n le,
      subst (λ (l : List Entry). IsCatalog l c.settle_all-count.new.catalog) settles c.settle_all-count.ensures.catalog,
    )

pub let_go-requires : goal.let_go-requires
let_go-requires g c =
    let xs = c.args.entries.now in
    let n = c.settle_all-count.result in let le = c.settle_all-count.ensures.most in
    let same = ap (λ (p : Partitions). p.entries) c.self.view_is in let sound = c.self.invariant.0 in
    let stretch = subst (λ (l : List Entry). IsStretch l xs) (sym same) c.requires in
    let settles = c.settle_all-count.ensures.settled ∙ settled_is sound xs stretch n le in
    let front = front_then sound xs stretch n le in let back = back_then sound xs stretch n le in
    record {
      counted = (
        front ++ back,
        c.forget_all.ensures front back (settled_rise sound xs stretch n le)
            (subst (λ (l : List Entry). IsCatalog l c.settle_all-count.new.catalog) settles
            c.settle_all-count.ensures.catalog),
      );
      order = c.self.invariant.3.order;
    }

pub invariant_of-self : goal.invariant_of-self
invariant_of-self g c =
    let es = g.I.PartIndex.entries c.self.inside.index in let xs = c.args.entries.now in
    let n = c.settle_all-count.result in let le = c.settle_all-count.ensures.most in
    let same = ap (λ (p : Partitions). p.entries) c.self.view_is in let sound = c.self.invariant.0 in
    let stretch = subst (λ (l : List Entry). IsStretch l xs) (sym same) c.requires in
    let settles = c.settle_all-count.ensures.settled ∙ settled_is sound xs stretch n le in
    let front = front_then sound xs stretch n le in let back = back_then sound xs stretch n le in
    let final = c.remove_all.ensures.gone front back settles in
    let home = home_is sound xs stretch n le ∙ sym final in
    let rise = settled_rise sound xs stretch n le in
    let catalog = subst (λ (l : List Entry). IsCatalog l c.forget_all.new.catalog) (sym final)
    (c.forget_all.ensures front back rise
    (subst (λ (l : List Entry). IsCatalog l c.settle_all-count.new.catalog) settles
    c.settle_all-count.ensures.catalog)) in (
      subst AreWellFormed home (at_home sound xs stretch n le).sound,
      c.self.invariant.1,
      catalog,
      subst (λ (l : List Entry). AreKnown l c.let_go.new.self) home
          (c.let_go.ensures _ (subst (λ (l : List Entry). IsCatalog l c.forget_all.new.catalog) (sym home) catalog)
          (known_home c.self.inside.keys (take n xs) es c.self.invariant.3)),
      subst (λ (l : List Entry). AreMerged l c.self.inside.runs c.self.inside.merged.list.items) home
          (merged_all_home (take n xs) es c.self.inside.runs c.self.inside.merged.list.items c.self.invariant.4),
      c.remove_all.ensures.rooms.have,
    )

pub returns-clause-entries : goal.returns-clause-entries
returns-clause-entries g c =
    let es = g.I.PartIndex.entries c.self.inside.index in let xs = c.args.entries.now in
    let n = c.settle_all-count.result in let le = c.settle_all-count.ensures.most in
    let same = ap (λ (p : Partitions). p.entries) c.self.view_is in let sound = c.self.invariant.0 in
    let stretch = subst (λ (l : List Entry). IsStretch l xs) (sym same) c.requires in
    let settles = c.settle_all-count.ensures.settled ∙ settled_is sound xs stretch n le in
    let front = front_then sound xs stretch n le in let back = back_then sound xs stretch n le in
    let final = c.remove_all.ensures.gone front back settles in
    let home = home_is sound xs stretch n le ∙ sym final in
    sym home ∙ ap (all_gone_home (take n xs)) same

pub returns-clause-content : goal.returns-clause-content
returns-clause-content g c =
    let es = g.I.PartIndex.entries c.self.inside.index in let xs = c.args.entries.now in
    let n = c.settle_all-count.result in let le = c.settle_all-count.ensures.most in
    let same = ap (λ (p : Partitions). p.entries) c.self.view_is in let sound = c.self.invariant.0 in
    let stretch = subst (λ (l : List Entry). IsStretch l xs) (sym same) c.requires in
    let settles = c.settle_all-count.ensures.settled ∙ settled_is sound xs stretch n le in
    let front = front_then sound xs stretch n le in let back = back_then sound xs stretch n le in
    let final = c.remove_all.ensures.gone front back settles in
    let home = home_is sound xs stretch n le ∙ sym final in
    subst (λ (l : List Entry). HasContent l (content c.args.self.now.entries)) home
    (subst (λ (l : List Entry). HasContent (all_gone_home (take n xs) es) (content l)) same
    (at_home sound xs stretch n le).has)

pub returns-clause-greatest : goal.returns-clause-greatest
returns-clause-greatest g c =
    let es = g.I.PartIndex.entries c.self.inside.index in let xs = c.args.entries.now in
    let n = c.settle_all-count.result in let le = c.settle_all-count.ensures.most in
    let same = ap (λ (p : Partitions). p.entries) c.self.view_is in let sound = c.self.invariant.0 in
    let stretch = subst (λ (l : List Entry). IsStretch l xs) (sym same) c.requires in
    let settles = c.settle_all-count.ensures.settled ∙ settled_is sound xs stretch n le in
    ⊎_elim (λ whole. inl whole)
    (λ needs. inr (subst (λ (l : List Entry). FirstNeedsRoom l (drop n xs)) same
    (needs_before es xs sound.rising stretch n
    (subst (λ (l : List Entry). FirstNeedsRoom l (drop n xs)) c.settle_all-count.ensures.settled needs))))
    c.settle_all-count.ensures.greatest

pub returns-clause-rooms : goal.returns-clause-rooms
returns-clause-rooms g c =
    let es = g.I.PartIndex.entries c.self.inside.index in let xs = c.args.entries.now in
    let n = c.settle_all-count.result in let le = c.settle_all-count.ensures.most in
    let same = ap (λ (p : Partitions). p.entries) c.self.view_is in let sound = c.self.invariant.0 in
    let stretch = subst (λ (l : List Entry). IsStretch l xs) (sym same) c.requires in
    let settles = c.settle_all-count.ensures.settled ∙ settled_is sound xs stretch n le in
    let front = front_then sound xs stretch n le in let back = back_then sound xs stretch n le in
    let final = c.remove_all.ensures.gone front back settles in
    subst (λ (rooms : List Place). KeepRoom rooms (g.I.PartIndex.roomy c.remove_all.new.index)
    (g.I.PartIndex.entries c.remove_all.new.index)) (ap (λ (p : Partitions). p.roomy) c.self.view_is)
    (keep_on _ _ _ (g.I.PartIndex.entries c.settle_all-count.new.index) (g.I.PartIndex.entries c.remove_all.new.index)
    c.settle_all-count.ensures.rooms c.remove_all.ensures.rooms
    (λ part key among stands. subst (λ (l : List Entry). IsSome (find l part key)) (sym settles)
    (between part key front (take n xs) back (subst (λ (l : List Entry). IsSome (find l part key)) final stands))))
