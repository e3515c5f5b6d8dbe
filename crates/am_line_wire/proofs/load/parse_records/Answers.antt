use Rattle.std.proofs.Common.{ℕ, List, [], ◌∷◌, ◌++◌, Option, Result, Ok, sym, ap, ◌∙◌}
use Rattle.am_record.specs.OrderedKey.{OrderedKey}
use Rattle.am_record.specs.Records.{Records}
use Rattle.am_record.proofs.Outcomes.{pushed}
use Rattle.am_line_text.specs.Records.{record_for, is_record_field, record_text}
use Rattle.am_line_text.specs.declared.fault.LineFault.{LineFault}
use Rattle.am_line_wire.proofs.Loads.{due_with, due_next, read_so}
use Rattle.am_line_wire.proofs.load.parse_records.Goals as goal

pub fields-preserved : goal.fields-preserved
fields-preserved c =
    let field = c.in-Ok.field.now in
    let items = c.fields.items.items in
    let read = read_so (is_record_field field) (record_for (record_text field)) c.in-Some.record
    (ap (λ (o : Option (OrderedKey × List ℕ)). let r : Result (Option (OrderedKey × List ℕ)) LineFault = Ok o in r)
    (sym c.in-Some.is) ∙ sym c.in_ok-record.was ∙ c.parse_record_field.ensures) in
    c.fields.invariant ∙ ap (due_with items) c.in-Ok.ensures ∙ due_next items field c.next.new.self c.in-Some.record
    read.0 read.1
    ∙ ap (λ (l : Records). due_with l c.next.new.self)
    (sym (pushed c.push.result (items ++ c.in-Some.record ∷ []) items c.push.new.self.items
    (sym c.is_err.ensures.value ∙ c.if-is_err.false) c.push.ensures.items))
