use Rattle.std.proofs.Common.{◌≡◌, ◌∷◌, ◌++◌, [], Option, Some, None, Ok, ok_or, sym, ◌∙◌, subst}
use Rattle.am_record.specs.Records.{Records}
use Rattle.am_record.proofs.Outcomes.{pushed}
use Rattle.am_trace_read.proofs.ReadRecords.{AreRead, record_more}
use Rattle.am_trace_read.proofs.shape.read_records.Goals as goal

there : {A E : Type 0} (o : Option A) (e : E) (x : A) → ok_or o e ≡ Ok x → o ≡ Some x
there None e x h = cc
there (Some y) e x h = cc

pub fields-preserved : goal.fields-preserved
fields-preserved c =
    let field = c.in-Some.field.now in
    let before = subst (λ left. AreRead c.args.version c.args.fields c.fields.items.items left) c.in-Some.ensures
    c.fields.invariant in
    let read = sym c.record.ensures ∙ there c.record.result _ c.in_ok-record.record
    (sym c.ok_or.ensures.value ∙ c.in_ok-record.was) in
    let items : c.push.new.self.items ≡ c.fields.items.items ++ c.in_ok-record.record ∷ [] =
    pushed c.push.result _ _ _ (sym c.is_err.ensures.value ∙ c.if-is_err.false) c.push.ensures.items in
    subst (λ (all : Records). AreRead c.args.version c.args.fields all c.next.new.fields) (sym items)
    (record_more c.args.version c.args.fields c.fields.items.items field c.next.new.fields c.in_ok-record.record before
    read)
