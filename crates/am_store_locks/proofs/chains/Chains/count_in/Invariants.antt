use Rattle.std.proofs.Common.{◌≡◌, ◌+◌, ◌-◌, ◌<◌, ◌≤◌, ◌&&◌, get_or, length, take}
use Rattle.std.specs.List.{count_by}
use Rattle.am_record.specs.Interval.{within}
use Rattle.am_record.specs.Locks.{is_exclusive}
use Rattle.am_record.specs.declared.lock.Lock.{Lock}
use Rattle.am_store_locks.specs.Chains.{chain_of, is_chained}
use Rattle.am_store_locks.proofs.chains.Chains.count_in.Given as goal

-- what was counted and what is left are all
abbrev pub invariant-walk : goal.invariant-walk
invariant-walk l = record {
  fits : l.upto ≤ length l.locks;
  there : (d : Lock) → 0 < l.upto → chain_of (get_or l.locks (l.upto - 1) d) ≡ l.chain;
  all : l.count.all + count_by (is_chained l.chain (λ k. within k.range l.fn.key)) (take l.upto l.locks) ≡
      count_by (is_chained l.chain (λ k. within k.range l.fn.key)) l.locks;
  exclusive : l.count.exclusive +
      count_by (is_chained l.chain (λ k. is_exclusive k.mode && within k.range l.fn.key)) (take l.upto l.locks) ≡
      count_by (is_chained l.chain (λ k. is_exclusive k.mode && within k.range l.fn.key)) l.locks;
}

abbrev pub decreases-walk : goal.decreases-walk
decreases-walk l = l.upto
