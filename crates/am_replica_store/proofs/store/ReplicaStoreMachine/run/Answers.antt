use Rattle.std.proofs.Common.{◌≡◌, ◌+◌, ◌∷◌, ◌∙◌, drop, sym, subst, arith}
use Rattle.std.proofs.lemmas.List.{drop_more, drop_all}
use Rattle.am_replica.specs.Bodies.{own_behind}
use Rattle.am_replica_store.specs.Alone.{committed_map, IsAlone}
use Rattle.am_replica_store.proofs.Alone.{Ran, ran_one_more, ran_whole, ran_inside, ran_alone}
use Rattle.am_replica_store.proofs.store.ReplicaStoreMachine.run.Goals as goal

pub invariant_of-self-in-loop-op : goal.invariant_of-self-in-loop-op
invariant_of-self-in-loop-op c = ran_alone c.loop-op.self-inside.store c.loop-op.self-inside.active c.in_ok-tx.tx
    (committed_map c.args.self.now) c.loop-op.told.items (drop c.loop-op.op-index c.args.ops.now) c.args.ops.now
    c.loop-op.invariant.active c.loop-op.invariant.ran

pub invariant_of-self-in_err-reply : goal.invariant_of-self-in_err-reply
invariant_of-self-in_err-reply c = ran_alone c.answer.new.store c.loop-op.self-inside.active c.in_ok-tx.tx
    (committed_map c.args.self.now) c.loop-op.told.items (drop c.loop-op.op-index c.args.ops.now) c.args.ops.now
    c.loop-op.invariant.active
    (subst (λ p. Ran p c.in_ok-tx.tx (committed_map c.args.self.now) c.loop-op.told.items
    (drop c.loop-op.op-index c.args.ops.now) c.args.ops.now) (sym c.in_err-reply.ensures.same)
    c.loop-op.invariant.ran)

-- what is left begins with the operation that is answered now
pub invariant_of-self-in_err-push : goal.invariant_of-self-in_err-push
invariant_of-self-in_err-push c =
    let ran = c.loop-op.invariant.ran in
    subst (λ a. IsAlone c.answer.new.store a) (sym c.loop-op.invariant.active) (
      own_behind ran.own c.op-item.result,
      committed_map c.args.self.now,
      c.in_ok-reply.ensures.goes ran.own (committed_map c.args.self.now) ran.inside,
    )

pub loop-op-preserved : goal.loop-op-preserved
loop-op-preserved c =
    let m = committed_map c.args.self.now in
    let all = c.args.ops.now in
    let i = c.loop-op.op-index in
    let next : drop i all ≡ c.op-item.result ∷ drop (i + 1) all =
    drop_more all i c.op-item.result (omega arith) ∙ (λ j. sym c.op-item.is j ∷ drop (i + 1) all) in
    let ran = subst (λ rest. Ran c.loop-op.self-inside.store c.in_ok-tx.tx m c.loop-op.told.items rest all) next
    c.loop-op.invariant.ran in
    record {
      active = c.loop-op.invariant.active;
      ran = subst (λ told. Ran c.answer.new.store c.in_ok-tx.tx m told (drop (i + 1) all) all)
          (sym c.in_ok-push.ensures.items)
          (ran_one_more c.loop-op.self-inside.store c.answer.new.store c.in_ok-tx.tx m c.loop-op.told.items
          c.op-item.result (drop (i + 1) all) all c.in_ok-reply.reply ran
          (c.in_ok-reply.ensures.told ran.own m ran.inside) (c.in_ok-reply.ensures.goes ran.own m ran.inside));
    }

pub returns-clause-same : goal.returns-clause-same
returns-clause-same c =
    let all = c.args.ops.now in
    let m = committed_map c.args.self.now in
    (ran_whole c.steps_lift.ensures.lift c.steps_lift.ensures.sound c.loop-op.self-inside.store c.in_ok-tx.tx m
    c.loop-op.told.items all (subst (λ rest. Ran c.loop-op.self-inside.store c.in_ok-tx.tx m c.loop-op.told.items rest
    all) (drop_all c.loop-op.op-index all c.loop-op-test.false) c.loop-op.invariant.ran)).2

pub returns-clause-inside : goal.returns-clause-inside
returns-clause-inside c =
    let all = c.args.ops.now in
    let m = committed_map c.args.self.now in
    ran_inside c.loop-op.self-inside.store c.in_ok-tx.tx m c.loop-op.told.items all
    (subst (λ rest. Ran c.loop-op.self-inside.store c.in_ok-tx.tx m c.loop-op.told.items rest all)
    (drop_all c.loop-op.op-index all c.loop-op-test.false) c.loop-op.invariant.ran)
