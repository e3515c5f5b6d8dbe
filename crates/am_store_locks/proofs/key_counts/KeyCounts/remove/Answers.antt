use Rattle.std.proofs.Common.{◌≡◌, ◌∷◌, ◌++◌, ◌+◌, drop, subst, sym, ◌∙◌, arith}
use Rattle.std.proofs.lemmas.List.{drop_more, drop_all}
use Rattle.am_store_locks.specs.KeyCounts.{AreCountsOf}
use Rattle.am_store_locks.proofs.key_counts.KeyCounts.remove.Goals as goal

pub remove_one-requires : goal.remove_one-requires
remove_one-requires c =
    let next : drop c.loop-lock.lock-index c.args.locks.now ≡
    c.lock-item.result ∷ drop (c.loop-lock.lock-index + 1) c.args.locks.now =
    drop_more c.args.locks.now c.loop-lock.lock-index c.lock-item.result (omega arith) ∙
    (λ i. sym c.lock-item.is i ∷ drop (c.loop-lock.lock-index + 1) c.args.locks.now) in (
      drop (c.loop-lock.lock-index + 1) c.args.locks.now ++ c.requires.0,
      subst (λ ls. AreCountsOf (ls ++ c.requires.0) c.loop-lock.self.buckets.items) next
          (c.loop-lock.invariant c.requires.0 c.requires.1),
    )

pub loop-lock-preserved : goal.loop-lock-preserved
loop-lock-preserved c = λ left counts.
    let next : drop c.loop-lock.lock-index c.args.locks.now ≡
    c.lock-item.result ∷ drop (c.loop-lock.lock-index + 1) c.args.locks.now =
    drop_more c.args.locks.now c.loop-lock.lock-index c.lock-item.result (omega arith) ∙
    (λ i. sym c.lock-item.is i ∷ drop (c.loop-lock.lock-index + 1) c.args.locks.now) in
    c.remove_one.ensures (drop (c.loop-lock.lock-index + 1) c.args.locks.now ++ left)
    (subst (λ ls. AreCountsOf (ls ++ left) c.loop-lock.self.buckets.items) next (c.loop-lock.invariant left counts))

pub returns : goal.returns
returns c = λ left counts.
    subst (λ ls. AreCountsOf (ls ++ left) c.loop-lock.self.buckets.items)
    (drop_all c.loop-lock.lock-index c.args.locks.now (omega arith)) (c.loop-lock.invariant left counts)
