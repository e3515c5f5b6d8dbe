-- The first entry from a place on.
use Rattle.std.specs.Prelude.{◌≡◌, ℕ, ◌≤◌, ◌==◌, ◌&&◌, Bool, true, false, List, filter, length, take, drop, Option}
use Rattle.std.specs.Prelude.{Some, None}
use Rattle.std.specs.List.{AllByRecursion}
use Rattle.std.specs.declared.cmp.Ordering.{Ordering}
use Rattle.std.specs.Ordering.{is_ge, is_gt}
use Rattle.am_record.specs.OrderedKey.{OrderedKey}
use Rattle.am_record.specs.EntryOrder.{place_of, place_cmp}
use Rattle.am_record.specs.declared.entry.Entry.{Entry}
use Rattle.am_index.specs.Entries.{first_such}
use Rattle.am_index.specs.Places.{IsLowerBound, IsUpperBound}
use Rattle.am_index_btree.specs.declared.read.Start.{Start}
use Rattle.am_index_btree.specs.declared.read.Start.TheVariants.{At, Above}
use Rattle.am_index_btree.specs.declared.read.Wanted.{Wanted}
use Rattle.am_index_btree.specs.declared.read.Wanted.TheVariants.{Any, Ghost}
use Rattle.am_index_btree.specs.declared.read.Beginning.{Beginning}
use Rattle.am_index_btree.specs.declared.separator.Separator.{Separator}
use Rattle.am_index_btree.specs.Separators.{IsChildFor}

-- whether what compares so with the place stands from it on
abbrev pub is_reached : Start → Ordering → Bool
is_reached At o = is_ge o
is_reached Above o = is_gt o

-- whether it is one of those that are looked for
abbrev pub is_wanted : Wanted → Entry → Bool
is_wanted Any e = true
is_wanted Ghost e = e.is_ghost

-- the first such entry at or above the place, or strictly above it
abbrev pub first_from : Start → Wanted → List Entry → ℕ → OrderedKey → Option Entry
first_from start wanted es part key = first_such
    (λ e. is_wanted wanted e && is_reached start (place_cmp (place_of e) (part, key))) es

-- whether the entry stands from there on; without a beginning each does
abbrev pub is_onward : Option Beginning → Entry → Bool
is_onward None e = true
is_onward (Some from) e = is_reached from.start (place_cmp (place_of e) (from.part, from.key))

-- the first entry from there on that is wanted
abbrev pub first_wanted : Wanted → Option Beginning → List Entry → Option Entry
first_wanted wanted from es = first_such (λ e. is_wanted wanted e && is_onward from e) es

-- the entries of that partition from the place on, in order
abbrev pub all_such : Start → List Entry → ℕ → OrderedKey → List Entry
all_such start es part key = filter (λ e. e.part == part && is_reached start (place_cmp (place_of e) (part, key))) es

-- the entries from the place on begin at the index i
abbrev pub IsStart : Start → List Entry → ℕ → OrderedKey → ℕ → Type 0
IsStart At es part key i = IsLowerBound es part key i
IsStart Above es part key i = IsUpperBound es part key i

-- the entries from there on are those from the index i on
pub record IsIndexFrom (from : Option Beginning) (es : List Entry) (i : ℕ) : Type 0 where
  pub in_range : i ≤ length es
  pub passed : AllByRecursion (λ e. is_onward from e ≡ false) (take i es)
  pub onward : AllByRecursion (λ e. is_onward from e ≡ true) (drop i es)

-- they begin in the child at the index i
abbrev pub IsChildFrom : Option Beginning → List Separator → ℕ → Type 0
IsChildFrom None separators i = i ≡ 0
IsChildFrom (Some from) separators i = IsChildFor separators from.part from.key i
