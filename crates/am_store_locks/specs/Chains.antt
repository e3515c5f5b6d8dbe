-- Chains of an owner's locks: from the last lock of a chain to the one before it, and so on.
use Rattle.std.specs.Prelude.{◌≡◌, ◌≢◌, ◌==◌, ◌<◌, ◌≤◌, ◌-◌, ◌/◌, ◌&&◌, ℕ, List, length, Bool, slice_index_or}
use Rattle.std.specs.List.{count_by, list_any}
use Rattle.am_record.specs.OrderedKey.{OrderedKey}
use Rattle.am_record.specs.Interval.{within}
use Rattle.am_record.specs.Locks.{is_exclusive}
use Rattle.am_record.specs.declared.lock.Lock.{Lock}
use Rattle.am_store_locks.specs.KeyCounts.{bucket_of}
use Rattle.am_store_locks.specs.declared.count.Count.{Count}

-- the chain of a lock: one of 128 by its bucket, and the one after them where it has more keys than one
abbrev pub chain_of : Lock → ℕ
chain_of l = bucket_of l / 256

-- whether the lock is of the chain and passes the test
abbrev pub is_chained : ℕ → (Lock → Bool) → Lock → Bool
is_chained chain test l = (chain_of l == chain) && test l

-- of the first `count` locks there are n up to the last one of the chain, 0 where none is of it
pub record EndsAt (chain : ℕ) (locks : List Lock) (count n : ℕ) : Type 0 where
  pub among : n ≤ count
  pub last : (d : Lock) → 0 < n → chain_of (slice_index_or locks (n - 1) d) ≡ chain
  pub others : (k : ℕ) (d : Lock) → n ≤ k → k < count → chain_of (slice_index_or locks k d) ≢ chain

-- where each chain ends, and where that of each lock did before the lock came
pub record AreChainsOf (locks : List Lock) (ends before : List ℕ) : Type 0 where
  pub long : length before ≡ length locks
  pub last : (chain d : ℕ) → chain < 129 → EndsAt chain locks (length locks) (slice_index_or ends chain d)
  pub earlier : (i d : ℕ) (e : Lock) → i < length locks →
      EndsAt (chain_of (slice_index_or locks i e)) locks i (slice_index_or before i d)

-- how many of the locks have the key, and how many exclusive ones among them
pub record IsCountAt (locks : List Lock) (key : OrderedKey) (count : Count) : Type 0 where
  pub all : count.all ≡ count_by (λ l. within l.range key) locks
  pub exclusive : count.exclusive ≡ count_by (λ l. is_exclusive l.mode && within l.range key) locks

-- whether one of the locks is exclusive
abbrev pub any_exclusive : List Lock → Bool
any_exclusive locks = list_any (λ l. is_exclusive l.mode) locks
