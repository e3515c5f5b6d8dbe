use Rattle.std.proofs.Common.{List, ◌++◌, drop}
use Rattle.am_record.specs.declared.lock.Lock.{Lock}
use Rattle.am_store_locks.specs.KeyCounts.{AreCountsOf}
use Rattle.am_store_locks.proofs.key_counts.KeyCounts.remove.Given as goal

abbrev pub invariant-loop-lock : goal.invariant-loop-lock
invariant-loop-lock l = (left : List Lock) → AreCountsOf (l.locks ++ left) l.fn.self.buckets.items →
    AreCountsOf (drop l.lock-index l.locks ++ left) l.self.buckets.items
