use Rattle.std.proofs.Common.{subst, sym, ◌∙◌}
use Rattle.std.proofs.lemmas.Bool.{false≢true}
use Rattle.am_record.specs.Asks.{lock_of}
use Rattle.am_audit_locks.specs.HeldLocks.{IsAnswerTo}
use Rattle.am_audit.proofs.RightReplies.{blocked_wrong, busy_unasked}
use Rattle.am_audit.proofs.verdict.verdict.Goals as goal

pub returns-then-not-is_refused-clause-event_fault : goal.returns-then-not-is_refused-clause-event_fault
returns-then-not-is_refused-clause-event_fault g c =
    let blocked = subst (λ a. IsAnswerTo g.at.1.active c.args.tx (lock_of c.args.op.now) a) c.in-Busy.is
    c.requires.1.1 in
    blocked_wrong g.at.0 g.at.1 c.args.tx c.args.op.now c.args.reply.now c.requires.0 c.requires.1.0 c.in-Busy.holder
    blocked
    (λ e. false≢true (c.if-not-is_refused.ensures.1 e))

pub returns-then-is_busy-clause-event_fault : goal.returns-then-is_busy-clause-event_fault
returns-then-is_busy-clause-event_fault g c =
    let free = subst (λ a. IsAnswerTo g.at.1.active c.args.tx (lock_of c.args.op.now) a) c.in-TooManyLocks.is
    c.requires.1.1 in
    busy_unasked g.at.0 g.at.1 c.args.tx c.args.op.now c.args.reply.now c.requires.0 c.requires.1.0 free.0
    (sym c.is_busy.ensures ∙ c.if-is_busy.true)

pub returns-then-is_busy-2-clause-event_fault : goal.returns-then-is_busy-2-clause-event_fault
returns-then-is_busy-2-clause-event_fault g c =
    let free = subst (λ a. IsAnswerTo g.at.1.active c.args.tx (lock_of c.args.op.now) a) c.in-Granted.is
    c.requires.1.1 in
    busy_unasked g.at.0 g.at.1 c.args.tx c.args.op.now c.args.reply.now c.requires.0 c.requires.1.0 free.0
    (sym c.is_busy-in-Granted.ensures ∙ c.if-is_busy-2.true)
