use Rattle.std.proofs.Common.{sym, ap, ◌∙◌}
use Rattle.am_record.specs.Plain.{draft_after}
use Rattle.am_record.specs.declared.step.Op.TheVariants.{Mark}
use Rattle.am_audit_replies.proofs.Trials.{went_back}
use Rattle.am_audit_replies.proofs.runs.leave_new.Goals as goal

pub returns-clause-same : goal.returns-clause-same
returns-clause-same c =
    let m = c.args.committed.now.map in
    let tried = c.in_ok-marks.ensures m (c.in_ok-answer.ensures.after ∙ ap (draft_after Mark) c.requires) in
    c.in_ok-go_back.ensures ∙ went_back _ _ _ m tried ∙ sym c.requires
