use Rattle.std.proofs.Common.{rules}
use Rattle.am_audit_replies.proofs.Trials.{one_back}
use Rattle.am_audit_replies.proofs.runs.go_back.Goals as goal

pub loop-preserved : goal.loop-preserved
loop-preserved c = one_back c.args.marks c.loop.counter c.loop.committed _ _ (search rules) c.in_ok-answer.ensures.after
    c.loop.invariant
