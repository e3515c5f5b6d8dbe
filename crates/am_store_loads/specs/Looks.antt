-- What a look for live keys of records finds, partition by partition.
use Rattle.std.specs.Prelude.{◌≡◌, ℕ, List, true}
use Rattle.am_record.specs.OrderedKey.{OrderedKey, key_cmp}
use Rattle.std.specs.Ordering.{is_lt}
use Rattle.am_record.specs.Interval.{key_le}
use Rattle.am_record.specs.Plain.{Records, is_key_of}
use Rattle.am_record.specs.declared.entry.Entry.{Entry}
use Rattle.am_index.specs.Content.{IsLiveAt}
use Rattle.am_index_parts.specs.Partitions.{LivesIn, LivesInNoRun}

-- the key is the least of the records' keys that are live in the partition
pub record IsLeastLiveIn (es : List Entry) (part : ℕ) (records : Records) (key : OrderedKey) : Type 0 where
  pub is_key : is_key_of records key ≡ true
  pub lives : LivesIn es part key
  pub least : (other : OrderedKey) (value : List ℕ) → is_key_of records other ≡ true → IsLiveAt es part other value →
      key_le key other ≡ true

-- no key of the records is live in a run
pub record NoneInRuns (es : List Entry) (records : Records) : Type 0 where
  pub none : (key : OrderedKey) → is_key_of records key ≡ true → LivesInNoRun es key

-- the key is one of the records', it is live, and none of them below it is live in a run
pub record IsLeastInRuns (es : List Entry) (records : Records) (key : OrderedKey) : Type 0 where
  pub is_key : is_key_of records key ≡ true
  pub part : ℕ
  pub lives : LivesIn es part key
  pub least : (other : OrderedKey) → is_key_of records other ≡ true → is_lt (key_cmp other key) ≡ true →
      LivesInNoRun es other
