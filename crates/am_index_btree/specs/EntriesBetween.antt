-- Entries that go among others.
use Rattle.std.specs.Prelude.{◌≡◌, ◌≢◌, Bool, true, false, not, List, Option, Some, None}
use Rattle.std.specs.declared.cmp.Ordering.TheVariants.{Less}
use Rattle.std.specs.Ordering.{is_le}
use Rattle.am_record.specs.EntryOrder.{Place, place_of, place_cmp}
use Rattle.am_record.specs.declared.entry.Entry.{Entry}
use Rattle.am_index.specs.Entries.{find, insert_entry}
use Rattle.am_index.specs.Places.{AllBelow, NoneBelow}
use Rattle.am_index_leaf.specs.LeafCode.{Seen}
use Rattle.am_index_btree.specs.Separators.{separator_place}
use Rattle.am_index_btree.specs.declared.separator.Separator.{Separator}

-- the entry is below the bound, if there is one
abbrev pub is_below : Option Separator → Entry → Bool
is_below None x = true
is_below (Some bound) x = not (is_le (place_cmp (separator_place bound) (place_of x)))

-- the place is the bound or above it; without one no place is
abbrev pub IsAtOrAbove : Option Separator → Place → Type 0
IsAtOrAbove None m = ⊥
IsAtOrAbove (Some bound) m = place_cmp m (separator_place bound) ≢ Less

-- the entry goes among them, after one of them and below the bound: it is above each place that none of them is below,
-- and below each that all are below and that lies from the bound on
pub record GoesAmong (es : List Entry) (bound : Option Separator) (x : Entry) : Type 0 where
  pub above : (l : Place) → NoneBelow l es → place_cmp l (place_of x) ≡ Less
  pub below : (m : Place) → AllBelow m es → IsAtOrAbove bound m → place_cmp (place_of x) m ≡ Less

-- the entry was put among those of a leaf, where nothing stood
pub record IsPut (old new : Seen) (bound : Option Separator) (x : Entry) : Type 0 where
  pub among : GoesAmong old.entries bound x
  pub free : find old.entries x.part x.key ≡ None
  pub added : new.entries ≡ insert_entry old.entries x

-- whether it was; else the leaf's entries are as before
abbrev pub HasPut : Seen → Seen → Option Separator → Entry → Bool → Type 0
HasPut old new bound x true = IsPut old new bound x
HasPut old new bound x false = new.entries ≡ old.entries
