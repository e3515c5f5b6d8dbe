-- What is known of the keys of runs.
use Rattle.std.specs.Prelude.{◌≡◌, ◌⊎◌, ◌<◌, ℕ, Bool, List, true, not, Option, Some, None}
use Rattle.std.specs.List.{AllByRecursion}
use Rattle.am_record.specs.OrderedKey.{OrderedKey}
use Rattle.am_record.specs.Interval.{key_le}
use Rattle.am_record.specs.KeyNumber.{key_number}
use Rattle.am_record.specs.declared.entry.Entry.{Entry}
use Rattle.am_index_parts.specs.declared.run_keys.Ends.{Ends}
use Rattle.am_index_parts.specs.declared.run_keys.RunKeys.{RunKeys}
use Rattle.am_index_parts.specs.ApartRuns.{StandsApart, AreInOrder}
use Rattle.am_index_parts.specs.RunFilters.{MayBeIn}

-- there are ends, and the key lies between them
abbrev pub LiesBetween : Option Ends → OrderedKey → Type 0
LiesBetween None key = ⊥
LiesBetween (Some e) key = (key_le e.lo key ≡ true) × (key_le key e.hi ≡ true)

-- the key lies between the ends, and filters say that it may be in the run, live or as a ghost
abbrev pub IsFiltered : RunKeys → Bool → ℕ → OrderedKey → Type 0
IsFiltered k live part key = LiesBetween k.ends key × MayBeIn live k.filters.generations.items part
    (key_number k.filters.hash key)

-- so it is, or the key lies in the range of the run, which stands apart
abbrev pub IsKnown : RunKeys → Bool → ℕ → OrderedKey → Type 0
IsKnown k live part key = StandsApart k.apart.list.items part key ⊎ IsFiltered k live part key

-- the same of a place, where it is one of a run
abbrev pub KnowsOf : RunKeys → Bool → ℕ → OrderedKey → Type 0
KnowsOf k live part key = 0 < part → IsKnown k live part key

-- so it is of each entry, and runs that stand apart are in order
pub record AreKnown (es : List Entry) (k : RunKeys) : Type 0 where
  pub order : AreInOrder k.apart.list.items
  pub each : AllByRecursion (λ (e : Entry). KnowsOf k (not e.is_ghost) e.part e.key) es

-- what the former know the latter know too
abbrev pub KnowsNoLess : RunKeys → RunKeys → Type 0
KnowsNoLess old new = (live : Bool) (part : ℕ) (key : OrderedKey) → IsKnown old live part key → IsKnown new live part
    key
