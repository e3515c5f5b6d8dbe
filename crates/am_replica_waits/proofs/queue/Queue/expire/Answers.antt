use Rattle.std.proofs.Common.{◌≡◌, List, false, ap, sym, subst, ◌∙◌}
use Rattle.am_replica_waits.specs.declared.queue.Waiting.{Waiting}
use Rattle.am_replica_waits.specs.Queues.{QueueState, is_of, with_expired}
use Rattle.am_replica_waits.proofs.Handing.{parts, expired_parts, expired_none, settled_none}
use Rattle.am_replica_waits.proofs.queue.Queue.expire.Goals as goal

pub returns-in-Some-clause-gone : goal.returns-in-Some-clause-gone
returns-in-Some-clause-gone c =
    let here : c.args.self.now ≡ c.settle.new.self =
    settled_none c.args.number c.args.self.now (sym c.if-settle.ensures.was) ∙ sym c.if-settle.ensures.gone in
    let view : parts c.self.inside.next c.self.inside.on_way c.self.inside.all.items ≡ c.args.self.now =
    c.self.view_is ∙ sym here in
    let seen = c.waiting.ensures ∙ sym (ap (λ (q : QueueState). q.waiting) c.self.view_is) in
    ap (parts c.self.inside.next c.self.inside.on_way) c.remove.ensures.items
    ∙ expired_parts c.args.number c.self.inside.next c.self.inside.on_way c.in-Some.at c.self.inside.all.items
    c.waiting.result.now seen c.in-Some.ensures.2
    (ap (λ (q : QueueState). is_of c.args.number q.on_way) view ∙ sym c.if-settle.ensures.was)
    ∙ ap (with_expired c.args.number) view

pub returns-in-None-clause-gone : goal.returns-in-None-clause-gone
returns-in-None-clause-gone c =
    let here : c.args.self.now ≡ c.settle.new.self =
    settled_none c.args.number c.args.self.now (sym c.if-settle.ensures.was) ∙ sym c.if-settle.ensures.gone in
    let seen = c.waiting.ensures ∙ ap (λ (q : QueueState). q.waiting) (sym here) in
    sym here
    ∙ expired_none c.args.number c.args.self.now (sym c.if-settle.ensures.was)
    (subst (λ (ws : List Waiting). is_of c.args.number ws ≡ false) seen c.in-None.ensures)
