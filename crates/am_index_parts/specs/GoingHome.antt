-- Entries of a run as they go to the final partition.
use Rattle.std.specs.Prelude.{◌≡◌, Bool, true, false, List, [], ◌∷◌, map, length, take}
use Rattle.std.specs.Ordering.{is_lt}
use Rattle.std.specs.List.{AllByRecursion}
use Rattle.am_record.specs.EntryOrder.{place_cmp, place_of}
use Rattle.am_record.specs.declared.entry.Entry.{Entry}
use Rattle.am_index.specs.Entries.{IsRising}

-- the entry as a live one of the final partition
abbrev pub home_of : Entry → Entry
home_of e = record e { part = 0; is_ghost = false }

abbrev pub homes_of : List Entry → List Entry
homes_of es = map (λ (e : Entry). home_of e) es

-- it stands there, and is live
abbrev pub IsHome : Entry → Type 0
IsHome e = (e.part ≡ 0) × (e.is_ghost ≡ false)

-- the homes are those of the first of the entries, which are live, and they rise
pub record AreHomesOf (es homes : List Entry) : Type 0 where
  pub first : homes ≡ homes_of (take (length homes) es)
  pub live : AllByRecursion (λ e. e.is_ghost ≡ false) (take (length homes) es)
  pub rising : IsRising homes

-- the entry's place is after that of the last of these, if there is one
abbrev pub goes_behind : List Entry → Entry → Bool
goes_behind [] e = true
goes_behind (f ∷ []) e = is_lt (place_cmp (place_of f) (place_of e))
goes_behind (f ∷ g ∷ es) e = goes_behind (g ∷ es) e
