use Rattle.std.proofs.Common.{ap, drop, ◌∙◌}
use Rattle.am_record.specs.Plain.{Draft}
use Rattle.am_record_model.proofs.Marks.{unmarked, unmarked_stand}
use Rattle.am_record_model.proofs.plain.Plain.drop_mark.Goals as goal

pub invariant_of-self : goal.invariant_of-self
invariant_of-self c =
    unmarked_stand c.self.inside.records c.self.inside.log c.drop_mark.new.self c.self.invariant
    c.drop_mark.ensures.notes c.drop_mark.ensures.marks

pub returns-clause-map : goal.returns-clause-map
returns-clause-map c =
    ap (λ (d : Draft). d.map) (unmarked c.self.inside.records c.self.inside.log c.drop_mark.new.self c.self.invariant
    c.drop_mark.ensures.notes c.drop_mark.ensures.marks)
    ∙ ap (λ (d : Draft). d.map) c.self.view_is

pub returns-clause-saved : goal.returns-clause-saved
returns-clause-saved c =
    ap (λ (d : Draft). d.saved) (unmarked c.self.inside.records c.self.inside.log c.drop_mark.new.self c.self.invariant
    c.drop_mark.ensures.notes c.drop_mark.ensures.marks)
    ∙ ap (λ (d : Draft). drop 1 d.saved) c.self.view_is
