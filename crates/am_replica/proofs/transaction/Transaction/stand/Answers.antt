use Rattle.std.proofs.Common.{◌≡◌, List, [], ◌∙◌, sym, ap, subst}
use Rattle.std.proofs.lemmas.List.{take_all}
use Rattle.am_record.specs.Plain.{answers}
use Rattle.am_record.specs.declared.step.Op.{Op}
use Rattle.am_replica.specs.Bodies.{kept_ops, given, replies}
use Rattle.am_replica.specs.Told.{TransactionState}
use Rattle.am_replica.proofs.Given.{given_are_answers}
use Rattle.am_replica.proofs.transaction.Transaction.stand.Goals as goal

-- all answers were taken, which are those of the operations, none of which is refused
pub returns-clause-is_open : goal.returns-clause-is_open
returns-clause-is_open g c =
    let m = g.M.Machine.map c.args.machine.now in
    let own = c.args.self.now.ops in
    let same : c.self.inside.ops.items ≡ own = ap (λ (t : TransactionState). t.ops) c.self.view_is in
    let kept : kept_ops own ≡ own = subst (λ (ops : List Op). kept_ops ops ≡ ops) same c.self.invariant in
    let asked = c.deref.ensures.value ∙ same in
    record {
      kept = kept;
      active = subst (λ ops. g.M.Machine.inside c.run.new.self ops m) (ap kept_ops asked ∙ kept)
          c.in_ok-replies.ensures.inside;
      told = subst (λ told. g.D.Digest.holds c.loop-reply.running told)
          (ap given (take_all c.loop-reply.reply-index c.deref-reply-items.result.now c.loop-reply-test.false
          ∙ c.deref-reply-items.ensures.value ∙ c.in_ok-replies.ensures.answers)
          ∙ ap (λ ops. given (replies ops m)) asked
          ∙ sym (given_are_answers m [] own)
          ∙ ap (λ ops. answers ops m) kept)
          c.loop-reply.invariant;
    }
