use Rattle.std.proofs.Common.{◌≡◌, [], ◌∷◌, ◌++◌, sym, ap, subst, ◌∙◌}
use Rattle.am_record.specs.Plain.{answers}
use Rattle.am_record.specs.declared.step.Reply.{Reply}
use Rattle.am_replica.specs.Bodies.{kept_ops, given_ops, given}
use Rattle.am_replica.proofs.Given.{given_are_answers, given_are_kept}
use Rattle.am_replica.proofs.Kept.{kept_one_more}
use Rattle.am_replica.proofs.transaction.Transaction.go_on.Goals as goal

-- what is kept is what the transaction has behind it
pub returns-clause-ops : goal.returns-clause-ops
returns-clause-ops g c =
    let m = g.M.Machine.map c.args.machine.now in
    let own = c.args.self.now.ops in
    let op = c.args.op in
    c.in_ok-keep.ensures.kept
    ∙ (λ i. (c.self.view_is i).ops ++ given_ops (op ∷ [])
    (c.in_ok-reply.ensures.answer own m c.requires.active i ∷ []))
    ∙ sym (given_are_kept m own (op ∷ []))

pub invariant_of-self-2 : goal.invariant_of-self-2
invariant_of-self-2 g c = subst (λ ops. kept_ops ops ≡ ops) (sym (returns-clause-ops g c))
    (kept_one_more c.args.self.now.ops c.args.op c.requires.kept)

pub returns-clause-is_open : goal.returns-clause-is_open
returns-clause-is_open g c =
    let m = g.M.Machine.map c.args.machine.now in
    let own = c.args.self.now.ops in
    let op = c.args.op in
    let kept = returns-clause-ops g c in
    record {
      kept = invariant_of-self-2 g c;
      active = subst (λ ops. g.M.Machine.inside c.go_on.new.self ops m) (sym kept)
          (c.in_ok-reply.ensures.inside own m c.requires.active);
      told = subst (λ told. g.D.Digest.holds c.add.new.running told)
          (sym (ap (λ ops. answers ops m) kept ∙ given_are_answers m own (op ∷ [])
          ∙ ap (λ (r : Reply). answers own m ++ given (r ∷ []))
          (sym (c.in_ok-reply.ensures.answer own m c.requires.active))))
          (c.in_ok-add.ensures (answers own m) c.requires.told);
    }

pub returns-clause-digest : goal.returns-clause-digest
returns-clause-digest g c =
    let m = g.M.Machine.map c.args.machine.now in
    c.sum-self-inside.ensures (answers c.keep.new.ops.items m) (returns-clause-is_open g c).told
    ∙ ap (λ ops. g.D.Digest.digest_of (answers ops m)) (returns-clause-ops g c)
