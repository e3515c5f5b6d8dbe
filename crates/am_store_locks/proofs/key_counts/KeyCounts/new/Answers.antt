use Rattle.std.proofs.Common.{refl}
use Rattle.am_store_locks.proofs.LockCounts.{AreCountsOf-none}
use Rattle.am_store_locks.proofs.key_counts.KeyCounts.new.Goals as goal

pub returns : goal.returns
returns c = AreCountsOf-none c.in_ok-vec.field-0.items (record { all = 0; exclusive = 0 })
    (c.in_ok-vec.ensures.items_if_clones_equal (λ y e. e)) refl refl
