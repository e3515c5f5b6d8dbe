-- Where a place stands in a list of entries.
use Rattle.std.specs.Prelude.{◌==◌, Option, Some, None, if◌then◌else◌, ◌≡◌, ◌≢◌, ℕ, ◌<◌, ◌≤◌, suc, List, length, take}
use Rattle.std.specs.Prelude.{drop, slice_index_or}
use Rattle.std.specs.declared.cmp.Ordering.TheVariants.{Less, Equal, Greater}
use Rattle.std.specs.List.{AllByRecursion}
use Rattle.am_record.specs.OrderedKey.{OrderedKey}
use Rattle.am_record.specs.declared.entry.Entry.{Entry}
use Rattle.am_record.specs.EntryOrder.{Place, place_of, place_cmp}

-- each entry is below the place
abbrev pub AllBelow : Place → List Entry → Type 0
AllBelow p es = AllByRecursion (λ e. place_cmp (place_of e) p ≡ Less) es

-- no entry is below the place
abbrev pub NoneBelow : Place → List Entry → Type 0
NoneBelow p es = AllByRecursion (λ e. place_cmp (place_of e) p ≢ Less) es

-- each entry is above the place
abbrev pub AllAbove : Place → List Entry → Type 0
AllAbove p es = AllByRecursion (λ e. place_cmp (place_of e) p ≡ Greater) es

-- no entry is above the place
abbrev pub NoneAbove : Place → List Entry → Type 0
NoneAbove p es = AllByRecursion (λ e. place_cmp (place_of e) p ≢ Greater) es

-- the entry at index i is the one of that place
pub record IsPlaceOf (es : List Entry) (part : ℕ) (key : OrderedKey) (i : ℕ) : Type 0 where
  pub in_range : i < length es
  pub below : AllBelow (part, key) (take i es)
  pub here : (d : Entry) → place_cmp (place_of (slice_index_or es i d)) (part, key) ≡ Equal
  pub above : AllAbove (part, key) (drop (suc i) es)

-- the place is absent, and would go to the index i
pub record IsGapFor (es : List Entry) (part : ℕ) (key : OrderedKey) (i : ℕ) : Type 0 where
  pub in_range : i ≤ length es
  pub below : AllBelow (part, key) (take i es)
  pub above : AllAbove (part, key) (drop i es)

-- the entries below the place end at the index i
pub record IsLowerBound (es : List Entry) (part : ℕ) (key : OrderedKey) (i : ℕ) : Type 0 where
  pub in_range : i ≤ length es
  pub below : AllBelow (part, key) (take i es)
  pub others : NoneBelow (part, key) (drop i es)

-- the entries above the place begin at the index i
pub record IsUpperBound (es : List Entry) (part : ℕ) (key : OrderedKey) (i : ℕ) : Type 0 where
  pub in_range : i ≤ length es
  pub others : NoneAbove (part, key) (take i es)
  pub above : AllAbove (part, key) (drop i es)

-- the entry, where it is one of the partition
abbrev pub only_of : ℕ → Option Entry → Option Entry
only_of part None = None
only_of part (Some e) = if e.part == part then Some e else None
