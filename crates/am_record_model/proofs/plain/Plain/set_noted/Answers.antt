use Rattle.std.proofs.Common.{◌∷◌, List, Option, ap, ◌∙◌}
use Rattle.std.specs.FinMap.{get}
use Rattle.am_record.specs.Plain.{Draft}
use Rattle.am_record_model.specs.declared.note.Note.{Note}
use Rattle.am_record_model.specs.Slots.{Cell, with_cell}
use Rattle.am_record_model.proofs.Marks.{noted, noted_stand}
use Rattle.am_record_model.proofs.plain.Plain.set_noted.Goals as goal

pub invariant_of-self-2 : goal.invariant_of-self-2
invariant_of-self-2 c =
    noted_stand c.self.inside.records c.set.new.self c.self.inside.log c.note.new.self c.args.key c.args.value
    c.self.invariant c.in_ok-set.ensures.ok
    (c.note.ensures.notes ∙ ap (λ (b : Option Cell). record { key = c.args.key; before = b } ∷
    c.reserve_one.new.self.notes) c.slot-before.ensures
    ∙ ap (λ (ns : List Note). record {
      key = c.args.key;
      before = get c.self.inside.records c.args.key;
    } ∷ ns) c.reserve_one.ensures.notes)
    (c.note.ensures.marks ∙ c.reserve_one.ensures.marks)

pub returns-clause-ok : goal.returns-clause-ok
returns-clause-ok c =
    noted c.self.inside.records c.set.new.self c.self.inside.log c.note.new.self c.args.key c.args.value
    c.self.invariant c.in_ok-set.ensures.ok
    (c.note.ensures.notes ∙ ap (λ (b : Option Cell). record { key = c.args.key; before = b } ∷
    c.reserve_one.new.self.notes) c.slot-before.ensures
    ∙ ap (λ (ns : List Note). record {
      key = c.args.key;
      before = get c.self.inside.records c.args.key;
    } ∷ ns) c.reserve_one.ensures.notes)
    (c.note.ensures.marks ∙ c.reserve_one.ensures.marks)
    ∙ ap (λ (d : Draft). record { map = with_cell d.map c.args.key c.args.value; saved = d.saved }) c.self.view_is
