use Rattle.std.proofs.Common.{ap, ◌∙◌, ◌++◌, rules}
use Rattle.am_program_audit.specs.Judgements.{record_line}
use Rattle.am_program_audit.proofs.RecordLines.{one_more_line}
use Rattle.am_program_audit.proofs.records.records_text.Goals as goal

pub loop-pair-preserved : goal.loop-pair-preserved
loop-pair-preserved c =
    let text = c.loop-pair.text.items in
    c.in_ok-push_line.ensures ∙ ap (λ r. text ++ record_line r) c.pair-item.is ∙
    one_more_line c.args.records.now c.loop-pair.pair-index c.pair-item.result text (search rules)
    c.loop-pair.invariant
