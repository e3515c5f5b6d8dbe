use Rattle.std.proofs.Common.{sym, ap, ◌∙◌}
use Rattle.std.specs.FinMap.{get}
use Rattle.am_record.specs.Plain.{Draft}
use Rattle.am_record.proofs.Outcomes.{is_none}
use Rattle.am_record_model.proofs.Live.{removed_none}
use Rattle.am_record_model.proofs.plain.Plain.delete_noted.Goals as goal

pub returns-then-is_none-clause-after : goal.returns-then-is_none-clause-after
returns-then-is_none-clause-after c =
    let none = sym (ap (λ (d : Draft). get d.map c.args.key) c.self.view_is) ∙ sym c.get.ensures ∙
    is_none c.get.result c.if-is_none.ensures in
    λ i. record { map = removed_none c.args.self.now.map c.args.key none i; saved = c.args.self.now.saved }
