-- Counts of locks by their keys: which keys none of the locks has, as far as two looks tell.
use Rattle.std.specs.Prelude.{◌≡◌, ◌<◌, ◌%◌, ℕ, List, length, Bool, cond, not, ◌==◌, ◌&&◌, ◌||◌, slice_index_or}
use Rattle.std.specs.List.{count_by, flat_map, list_any}
use Rattle.std.specs.Ordering.{eq_by_cmp}
use Rattle.am_record.specs.OrderedKey.{OrderedKey, key_cmp}
use Rattle.am_record.specs.KeyMix.{key_mix}
use Rattle.am_record.specs.Interval.{within}
use Rattle.am_record.specs.Locks.{is_exclusive, are_compatible}
use Rattle.am_record.specs.declared.lock.Mode.{Mode}
use Rattle.am_record.specs.declared.lock.Lock.{Lock}
use Rattle.am_store_locks.specs.OwnerLocks.{OwnerLocks}
use Rattle.am_store_locks.specs.declared.count.Count.{Count}

-- the bucket of the locks that have this key alone
abbrev pub key_bucket : OrderedKey → ℕ
key_bucket key = key_mix key % 32768

-- whether the lock has one key alone
abbrev pub has_one_key : Lock → Bool
has_one_key l = eq_by_cmp key_cmp l.range.lo l.range.hi

-- the bucket of a lock: that of its one key, and the last one where it has more keys
abbrev pub bucket_of : Lock → ℕ
bucket_of l = cond (has_one_key l) (key_bucket l.range.lo) 32768

-- each bucket has the number of its locks, and of the exclusive ones among them
pub record AreCountsOf (locks : List Lock) (buckets : List Count) : Type 0 where
  pub long : length buckets ≡ 32769
  pub all : (n : ℕ) (d : Count) → n < 32769 → (slice_index_or buckets n d).all ≡ count_by (λ l. bucket_of l == n) locks
  pub exclusive : (n : ℕ) (d : Count) → n < 32769 →
      (slice_index_or buckets n d).exclusive ≡ count_by (λ l. is_exclusive l.mode && (bucket_of l == n)) locks

-- the locks of all owners
abbrev pub all_locks : List OwnerLocks → List Lock
all_locks table = flat_map (λ h. h.locks) table

-- whether the lock may have a key of this bucket, and its mode doesn't go with the asked one
abbrev pub may_clash : Mode → ℕ → Lock → Bool
may_clash asked bucket l = ((bucket_of l == bucket) || (bucket_of l == 32768)) && not (are_compatible asked l.mode)

-- whether one of the locks has the key in its range
abbrev pub any_within : List Lock → OrderedKey → Bool
any_within locks key = list_any (λ l. within l.range key) locks
