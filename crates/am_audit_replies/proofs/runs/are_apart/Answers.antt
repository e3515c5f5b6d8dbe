use Rattle.std.proofs.Common.{sym, ◌∙◌, rules}
use Rattle.am_audit_replies.proofs.Apart.{made_alike}
use Rattle.am_audit_replies.proofs.runs.are_apart.Goals as goal

pub returns-in-Some : goal.returns-in-Some
returns-in-Some c = λ apart m reply.
    made_alike c.args.own.now c.args.op.now c.in-Some.lock m reply (search rules) (search rules)
    (sym c.are_all_apart.ensures ∙ apart)
