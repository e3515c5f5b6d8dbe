-- What a cursor has still to give, by where its heads stand.
use Rattle.std.specs.Prelude.{◌≡◌, ℕ, List, [], Option, true, Bool, ◌&&◌, ◌==◌, MatchOption}
use Rattle.std.specs.List.{list_any, cons_option, All, IsDistinct}
use Rattle.std.specs.BinaryHeap.{IsHeap, IsUpperBound}
use Rattle.am_record.specs.OrderedKey.{OrderedKey}
use Rattle.am_record.specs.Interval.{Interval, within}
use Rattle.am_record.specs.Plain.{PlainMap, Records, rows_where}
use Rattle.am_record.specs.declared.entry.Entry.{Entry}
use Rattle.am_index.specs.Content.{IsLiveAt}
use Rattle.am_index_parts.specs.Catalogs.{PartsRise, AllStandIn}
use Rattle.am_index_parts.specs.Partitions.{AreWellFormed}
use Rattle.am_store_scan.specs.Directions.{le_in, as_read}
use Rattle.am_store_scan.specs.Heads.{Stand, head_cmp, IsHead}

-- whether a head stands at the key or before it
abbrev pub is_ahead : Bool → List Stand → OrderedKey → Bool
is_ahead back heads key = list_any (λ (h : Stand). le_in back h.key key) heads

-- the records of the range from the first head on, as they are read
abbrev pub rows_ahead : Bool → List Stand → Interval → PlainMap → Records
rows_ahead back heads range m = as_read back (rows_where (λ key. is_ahead back heads key && within range key) m)

-- whether the head of the partition stands at the key or before it
abbrev pub is_ahead_in : Bool → List Stand → ℕ → OrderedKey → Bool
is_ahead_in back heads part key = list_any (λ (h : Stand). h.part == part && le_in back h.key key) heads

abbrev pub of_one_part : Stand → Stand → Bool
of_one_part g h = g.part == h.part

-- in the partitions stands all that stands in the range, and they rise
pub record AreSources (es : List Entry) (range : Interval) (parts : List ℕ) : Type 0 where
  pub sound : AreWellFormed es
  pub every : AllStandIn es range parts
  pub rising : PartsRise parts

-- heads at live entries of the range, one of a partition at most
pub record AreHeads (back : Bool) (es : List Entry) (range : Interval) (heads : List Stand) : Type 0 where
  pub each : All (IsHead back es range) heads
  pub apart : IsDistinct of_one_part heads

-- the heads have all that is live from the first head on before them
pub record AreAhead (back : Bool) (es : List Entry) (range : Interval) (heads : List Stand) : Type 0 where
  pub sound : AreWellFormed es
  pub are_heads : AreHeads back es range heads
  pub before : (part : ℕ) (key : OrderedKey) (value : List ℕ) → IsLiveAt es part key value → within range key ≡ true →
      is_ahead back heads key ≡ true → is_ahead_in back heads part key ≡ true

-- the heads, in a heap, have all that is live in the range before them
pub record AreAllHeads (back : Bool) (es : List Entry) (range : Interval) (heads : List Stand) : Type 0 where
  pub are_heads : AreHeads back es range heads
  pub heap : IsHeap (head_cmp back) heads
  pub before : (part : ℕ) (key : OrderedKey) (value : List ℕ) → IsLiveAt es part key value → within range key ≡ true →
      is_ahead_in back heads part key ≡ true

-- the head is the one that is read first, the others are in a heap, and where there is none there are no others
pub record IsFirstBeside (back : Bool) (first : Option Stand) (others : List Stand) : Type 0 where
  pub heap : IsHeap (head_cmp back) others
  pub greatest : MatchOption first (others ≡ []) (λ h. IsUpperBound (head_cmp back) h others)

-- a cursor's heads
pub record IsCursor (back : Bool) (es : List Entry) (range : Interval) (first : Option Stand)
    (others : List Stand) : Type 0 where
  pub beside : IsFirstBeside back first others
  pub ahead : AreAhead back es range (cons_option first others)
