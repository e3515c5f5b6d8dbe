use Rattle.std.proofs.Common.{None, Some, sym, ap, ◌∙◌}
use Rattle.am_record.specs.Plain.{Draft}
use Rattle.am_record_model.specs.Slots.{with_cell}
use Rattle.am_record_model.proofs.Marks.{unnoted}
use Rattle.am_record_model.proofs.plain.Plain.set.Goals as goal

pub returns-in_ok-set-in-Some-clause-ok : goal.returns-in_ok-set-in-Some-clause-ok
returns-in_ok-set-in-Some-clause-ok c =
    unnoted c.self.inside.records c.set.new.self c.self.inside.log c.args.key (Some c.args.value)
    (sym c.has_mark.ensures ∙ c.if-has_mark.false) c.in_ok-set-in-Some.ensures.ok
    ∙ ap (λ (d : Draft). record { map = with_cell d.map c.args.key c.args.value; saved = d.saved }) c.self.view_is

pub returns-in-None-clause-ok : goal.returns-in-None-clause-ok
returns-in-None-clause-ok c =
    unnoted c.self.inside.records c.remove.new.self c.self.inside.log c.args.key None
    (sym c.has_mark.ensures ∙ c.if-has_mark.false) c.remove.ensures
    ∙ ap (λ (d : Draft). record { map = with_cell d.map c.args.key None; saved = d.saved }) c.self.view_is
    ∙ ap (λ o. record {
      map = with_cell c.args.self.now.map c.args.key o;
      saved = c.args.self.now.saved;
    }) (sym c.in-None.is)
