use Rattle.std.proofs.Common.{[], ◌∷◌, inr, sym, ap, ◌∙◌}
use Rattle.am_record.specs.Plain.{answers}
use Rattle.am_record.specs.declared.step.Reply.{Reply}
use Rattle.am_replica.specs.Bodies.{reply_behind}
use Rattle.am_replica.specs.Ordered.{same_sum}
use Rattle.am_replica.specs.Told.{TransactionState}
use Rattle.am_replica.proofs.OneMore.{stands_by, tells_one, gone_on}
use Rattle.am_replica.proofs.transaction.Transaction.trial.Goals as goal

pub returns-then-not-is_same-clause-conflict : goal.returns-then-not-is_same-clause-conflict
returns-then-not-is_same-clause-conflict g c is =
    let m = g.M.Machine.map c.args.machine.now in
    let old = c.args.self.now in
    let trial = c.in_ok-running.ensures.is_open in
    inr (stands_by g.D.Digest.digest_of old (c.args.op ∷ []) m trial.kept
    ∙ (λ i. same_sum (sym (c.sum.ensures (answers old.ops m) trial.told) i) (sym c.self.view_is i).digest)
    ∙ sym c.is_same.ensures ∙ c.if-not-is_same.true)

pub returns-clause-answer : goal.returns-clause-answer
returns-clause-answer g c =
    let m = g.M.Machine.map c.args.machine.now in
    let old = c.args.self.now in
    tells_one old c.args.op m c.in_ok-running.ensures.is_open.kept
    ∙ (λ i. reply_behind old.ops (sym c.in_ok-running.ensures.same i) c.args.op ∷ [])
    ∙ ap (λ (reply : Reply). reply ∷ []) (sym c.in_ok-reply.ensures.answer)

pub returns-clause-stands : goal.returns-clause-stands
returns-clause-stands g c =
    let m = g.M.Machine.map c.args.machine.now in
    let old = c.args.self.now in
    let trial = c.in_ok-running.ensures.is_open in
    stands_by g.D.Digest.digest_of old (c.args.op ∷ []) m trial.kept
    ∙ (λ i. same_sum (sym (c.sum.ensures (answers old.ops m) trial.told) i) (sym c.self.view_is i).digest)
    ∙ sym c.is_same.ensures ∙ c.if-not-is_same.false

pub returns-clause-goes_on : goal.returns-clause-goes_on
returns-clause-goes_on g c =
    let went = c.in_ok-reply.ensures in
    gone_on g.D.Digest.digest_of c.args.self.now c.go_on.new.self c.args.op (g.M.Machine.map c.args.machine.now)
    (g.M.Machine.map c.stand.new.machine) c.in_ok-running.ensures.is_open.kept
    (ap (λ (t : TransactionState). t.is_over) (sym c.self.view_is) ∙ c.if-self.false) c.in_ok-running.ensures.same
    went.ops
    went.digest went.over
