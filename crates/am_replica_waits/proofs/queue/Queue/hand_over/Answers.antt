use Rattle.std.proofs.Common.{◌≡◌, ℕ, List, ◌++◌, length, take, drop, ap, sym, ◌∙◌}
use Rattle.am_replica_waits.specs.declared.queue.Waiting.{Waiting}
use Rattle.am_replica_waits.specs.Queues.{QueueState, first_within, handed_together, with_handed}
use Rattle.am_replica_waits.proofs.Handing.{handed_count, handed_slice, parts_handed, numbers_of}
use Rattle.am_replica_waits.proofs.queue.Queue.hand_over.Goals as goal

pub returns-clause-numbers : goal.returns-clause-numbers
returns-clause-numbers c =
    let limit : ℕ = c.args.most_bytes in
    let ns : List ℕ = c.args.numbers.now in
    let ws : List Waiting = c.waiting-waiting.result.now in
    let count : ℕ = c.first_within-count.result in
    let counted : count ≡ length (first_within limit (take (length ns) ws)) =
    handed_count limit (length ns) c.min-most.result count ws c.min-most.ensures c.first_within-count.ensures.count in
    let hands : first_within limit (take (length ns) ws) ≡ handed_together limit (length ns) c.args.self.now =
    ap (λ (vs : List Waiting). first_within limit (take (length ns) vs)) c.waiting-waiting.ensures in
    c.tell_numbers.ensures
    ∙ ap (λ hs. numbers_of hs ++ drop (length hs) ns) (handed_slice limit (length ns) count ws counted ∙ hands)
    ∙ ap (λ n. numbers_of (handed_together limit (length ns) c.args.self.now) ++ drop n ns)
    (sym (counted ∙ ap length hands))

pub returns-clause-left : goal.returns-clause-left
returns-clause-left c =
    let limit : ℕ = c.args.most_bytes in
    let most : ℕ = length c.args.numbers.now in
    let ws : List Waiting = c.waiting-waiting.result.now in
    let seen : ws ≡ drop c.self.inside.on_way c.self.inside.all.items =
    c.waiting-waiting.ensures ∙ sym (ap (λ (q : QueueState). q.waiting) c.self.view_is) in
    parts_handed limit most c.self.inside.next c.self.inside.on_way c.first_within-count.result c.self.inside.all.items
    (handed_count limit most c.min-most.result c.first_within-count.result ws c.min-most.ensures
    c.first_within-count.ensures.count ∙ ap (λ (vs : List Waiting). length (first_within limit (take most vs))) seen)
    ∙ ap (with_handed limit most) c.self.view_is
