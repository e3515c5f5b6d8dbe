use Rattle.std.proofs.Common.{ap, ◌∙◌}
use Rattle.am_record.specs.Plain.{Draft, draft_back}
use Rattle.am_record_model.proofs.Marks.{back_stand, went_back_to}
use Rattle.am_record_model.proofs.plain.Plain.back.Goals as goal

pub invariant_of-self : goal.invariant_of-self
invariant_of-self c =
    back_stand c.self.inside.records c.back.new.records c.self.inside.log c.back.new.self c.self.invariant
    c.back.ensures.records c.back.ensures.notes c.back.ensures.marks

pub returns-clause-after : goal.returns-clause-after
returns-clause-after c =
    went_back_to c.self.inside.records c.back.new.records c.self.inside.log c.back.new.self c.self.invariant
    c.back.ensures.records c.back.ensures.notes c.back.ensures.marks
    ∙ ap (λ (d : Draft). draft_back d.saved d) c.self.view_is
