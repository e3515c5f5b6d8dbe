use Rattle.std.proofs.Common.{◌≡◌, subst, sym}
use Rattle.am_record.specs.declared.step.Op.{Op}
use Rattle.am_replica.specs.Bodies.{own_behind, reply_behind}
use Rattle.am_replica_store.specs.Alone.{IsInside}
use Rattle.am_replica_store.proofs.Alone.{did}
use Rattle.am_replica_store.proofs.store.answer.Goals as goal

pub returns-clause-told : goal.returns-clause-told
returns-clause-told c own m h = subst (λ (op : Op). c.step-reply.result ≡ reply_behind own m op)
    c.in_ok-copy.ensures.same
    (did c.args.store.now c.args.tx own m h c.step-reply.new.self c.in_ok-copy.field-0 c.step-reply.result
    c.step-reply.ensures.goes (sym c.if-is_out_of_room.ensures)).0

pub returns-clause-goes : goal.returns-clause-goes
returns-clause-goes c own m h = subst (λ (op : Op). IsInside c.step-reply.new.self c.args.tx (own_behind own op) m)
    c.in_ok-copy.ensures.same
    (did c.args.store.now c.args.tx own m h c.step-reply.new.self c.in_ok-copy.field-0 c.step-reply.result
    c.step-reply.ensures.goes (sym c.if-is_out_of_room.ensures)).1
