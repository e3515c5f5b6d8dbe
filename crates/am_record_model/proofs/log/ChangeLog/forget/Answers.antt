use Rattle.std.proofs.Common.{List, [], ◌∷◌, reverse, take, get_or, sym, ap, ◌∙◌, subst, arith}
use Rattle.std.proofs.lemmas.List.{take_more, take_all, reverse-append}
use Rattle.std.specs.List.{AllByRecursion}
use Rattle.am_record.proofs.Lists.{AllByRecursion-map, AllByRecursion-push}
use Rattle.am_record_model.specs.Marks.{DraftLog}
use Rattle.am_record_model.specs.Slots.{Cells, IsNoPlace}
use Rattle.am_record_model.specs.declared.note.Note.{Note}
use Rattle.am_record_model.proofs.log.ChangeLog.forget.Goals as goal

abbrev AreNoPlaces : Cells → List Note → Type 0
AreNoPlaces cells notes = AllByRecursion (λ (n : Note). IsNoPlace cells n.key) notes

pub loop-note-preserved : goal.loop-note-preserved
loop-note-preserved c =
    let items = c.deref-note-items.result.now in let i = c.loop-note.note-index in let n = c.note-item.result in
    let before = AllByRecursion-map (λ (m : Note). IsNoPlace c.loop-note.records m.key)
    (λ (m : Note). IsNoPlace c.clean.new.self m.key)
    (λ m h. c.clean.ensures.others m.key h) (take i items) c.loop-note.invariant.1 in
    let this = subst (λ (m : Note). IsNoPlace c.clean.new.self m.key) c.note-item.is c.clean.ensures.gone in (
      c.clean.ensures.live ∙ c.loop-note.invariant.0,
      subst (AreNoPlaces c.clean.new.self) (sym (take_more items i n c.loop-note-test.true))
          (AllByRecursion-push (λ (m : Note). IsNoPlace c.clean.new.self m.key) (take i items) (get_or items i n) before
          this),
    )

all_reverse : (P : Note → Type 0) (notes : List Note) → AllByRecursion P notes → AllByRecursion P (reverse notes)
all_reverse P [] all = all
all_reverse P (n ∷ notes) all =
    subst (AllByRecursion P) (sym (reverse-append (n ∷ []) notes))
    (AllByRecursion-push P (reverse notes) n (all_reverse P notes all.1) all.0)

pub returns-clause-places : goal.returns-clause-places
returns-clause-places c =
    let items = c.deref-note-items.result.now in
    let whole = take_all c.loop-note.note-index items
    (omega (arith, c.loop-note-test.false, c.loop-note.auto.note-index-end)) in
    subst (AreNoPlaces c.loop-note.records) (ap reverse c.deref-note-items.ensures.value ∙
    ap (λ (l : DraftLog). l.notes) c.self.view_is)
    (all_reverse (λ (m : Note). IsNoPlace c.loop-note.records m.key) items
    (subst (AreNoPlaces c.loop-note.records) whole c.loop-note.invariant.1))
