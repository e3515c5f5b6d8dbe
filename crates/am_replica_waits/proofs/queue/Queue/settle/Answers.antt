use Rattle.std.proofs.Common.{◌≡◌, ◌-◌, List, false, ap, sym, subst, ◌∙◌}
use Rattle.am_replica_waits.specs.declared.queue.Waiting.{Waiting}
use Rattle.am_replica_waits.specs.Queues.{QueueState, is_of, with_settled}
use Rattle.am_replica_waits.proofs.Handing.{parts, settled_parts, settled_none}
use Rattle.am_replica_waits.proofs.queue.Queue.settle.Goals as goal

pub returns-in-Some-clause-gone : goal.returns-in-Some-clause-gone
returns-in-Some-clause-gone c =
    let seen = c.on_way.ensures ∙ sym (ap (λ (q : QueueState). q.on_way) c.self.view_is) in
    ap (parts c.self.inside.next (c.self.inside.on_way - 1)) c.remove.ensures.items
    ∙ settled_parts c.args.number c.self.inside.next c.self.inside.on_way c.in-Some.at c.self.inside.all.items
    c.on_way.result.now seen c.in-Some.ensures.0 c.in-Some.ensures.2
    ∙ ap (with_settled c.args.number) c.self.view_is

pub returns-in-None-clause-gone : goal.returns-in-None-clause-gone
returns-in-None-clause-gone c =
    settled_none c.args.number c.args.self.now
    (subst (λ (ws : List Waiting). is_of c.args.number ws ≡ false) c.on_way.ensures c.in-None.ensures)
