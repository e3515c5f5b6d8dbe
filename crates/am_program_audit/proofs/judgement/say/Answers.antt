use Rattle.std.proofs.Common.{◌≡◌, [], Err, append-nil, ◌∙◌, rules}
use Rattle.am_line_sink.proofs.Writes.{wrote_torn, wrote_flushed}
use Rattle.am_program_audit.specs.Judgements.{judgement_line}
use Rattle.am_program_audit.proofs.judgement.say.Goals as goal

pub returns-in_err-flush-clause-wrote : goal.returns-in_err-flush-clause-wrote
returns-in_err-flush-clause-wrote g c =
    let whole : c.as_slice.result.now ≡ judgement_line c.args.judgement.now = search rules in
    wrote_torn {A = Unit {0}} [] c.from_residual-in_err-flush.result (search rules) (append-nil _ ∙ whole)
    (wrote_flushed (Err c.in_err-flush.field-0.0) c.in_ok-give_all.ensures.wrote c.flush.ensures.kept tt
    c.in_err-flush.ensures.failed)
