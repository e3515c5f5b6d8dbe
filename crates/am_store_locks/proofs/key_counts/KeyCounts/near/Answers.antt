use Rattle.std.proofs.Common.{◌+◌, ap, ◌∙◌}
use Rattle.am_store_locks.proofs.LockCounts.{counted_for, may_clash-counted}
use Rattle.am_store_locks.proofs.key_counts.KeyCounts.near.Goals as goal

pub returns : goal.returns
returns c = λ locks counts.
    let one = c.clashing.ensures.count ∙ ap (counted_for c.args.mode) c.index.ensures in
    let wide = c.clashing-2.ensures.count ∙ ap (counted_for c.args.mode) c.index-2.ensures in
    (λ i. one i + wide i) ∙ may_clash-counted c.args.mode locks c.args.self.now.buckets.items counts c.args.bucket
    c.index.result.now c.index-2.result.now c.requires.one_key
