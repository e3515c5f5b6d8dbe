use Rattle.std.proofs.Common.{◌≡◌, ◌<◌, get_or, ap, ◌∙◌, ◌+◌, cond, arith}
use Rattle.std.proofs.lemmas.List.{get_or_read}
use Rattle.am_record.specs.Locks.{is_exclusive}
use Rattle.am_store_locks.specs.declared.count.Count.{Count}
use Rattle.am_store_locks.proofs.Buckets.{bucket_of-few}
use Rattle.am_store_locks.proofs.LockCounts.{AreCountsOf-add}
use Rattle.am_store_locks.proofs.key_counts.KeyCounts.add.Goals as goal

pub returns : goal.returns
returns c = λ locks counts.
    let inside : c.args.bucket < 32769 = omega (arith, c.requires.bucket, bucket_of-few c.args.lock.now) in
    let read : (d : Count) → c.index_mut.result.now ≡ get_or c.args.self.now.buckets.items c.args.bucket d =
    get_or_read c.args.self.now.buckets.items c.args.bucket c.index_mut.result.now (omega (arith, inside, counts.long))
    c.index_mut.ensures.value in
    AreCountsOf-add locks c.args.lock.now c.args.self.now.buckets.items c.args.bucket c.add.new.self c.requires.bucket
    counts inside
    (λ d. c.add.ensures.all ∙ ap (λ (x : Count). x.all + 1) (read d))
    (λ d. c.add.ensures.exclusive ∙ ap (λ (x : Count). x.exclusive + cond (is_exclusive c.args.lock.now.mode) 1 0)
    (read d))
