use Rattle.std.proofs.Common.{ap, ◌∙◌}
use Rattle.am_program_audit.specs.Judgements.{records_text}
use Rattle.am_program_audit.proofs.records.lines_of.Goals as goal

pub returns-clause-against : goal.returns-clause-against
returns-clause-against c =
    let judged = c.in_ok-audit.ensures.judged in (
      c.judgement_of.ensures.told c.args.text.now judged.0 judged.1 (c.in-Err.ensures.wrong _ judged.0 judged.2),
      c.judgement_of.ensures.others,
    )

pub returns-in-Ok-records_text-clause-records : goal.returns-in-Ok-records_text-clause-records
returns-in-Ok-records_text-clause-records c =
    let judged = c.in_ok-audit.ensures.judged in
    let legal = c.in-Ok.ensures.legal _ judged.0 judged.2 in
    record {
      trace = judged.0;
      is_text = judged.1;
      legal = legal.0;
      are = c.in-Ok-records_text.ensures ∙ ap records_text (c.deref.ensures.value ∙ legal.1);
    }
