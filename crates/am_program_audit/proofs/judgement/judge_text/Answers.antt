use Rattle.am_program_audit.proofs.judgement.judge_text.Goals as goal

pub returns-in-Ok : goal.returns-in-Ok
returns-in-Ok c =
    let judged = c.in-Ok.ensures.judged in
    c.judgement_of.ensures.told c.args.text.now judged.0 judged.1
    (c.in-Err-verdict.ensures.wrong _ judged.0 judged.2)

pub returns-in-Ok-verdict : goal.returns-in-Ok-verdict
returns-in-Ok-verdict c =
    let judged = c.in-Ok.ensures.judged in
    let legal = c.in-Ok-verdict.ensures.legal _ judged.0 judged.2 in
    (judged.0, judged.1, legal.0, legal.1)
