-- Runs whose keys lie apart.
use Rattle.std.specs.Prelude.{◌≡◌, ◌⊎◌, ℕ, List, [], ◌∷◌, true, false}
use Rattle.std.specs.List.{AllByRecursion}
use Rattle.am_record.specs.OrderedKey.{OrderedKey}
use Rattle.am_record.specs.Interval.{Interval, key_le, within, meets}
use Rattle.am_index_parts.specs.declared.apart_runs.ApartRun.{ApartRun}

-- the key lies in the range of the run
abbrev pub StandsApart : List ApartRun → ℕ → OrderedKey → Type 0
StandsApart [] part key = ⊥
StandsApart (a ∷ rs) part key = ((a.part ≡ part) × (within a.range key ≡ true)) ⊎ StandsApart rs part key

-- each range has its ends in order, and ends before all later ones begin
abbrev pub AreInOrder : List ApartRun → Type 0
AreInOrder [] = Unit {0}
AreInOrder (a ∷ rs) = (key_le a.range.lo a.range.hi ≡ true) ×
    AllByRecursion (λ (b : ApartRun). key_le b.range.lo a.range.hi ≡ false) rs × AreInOrder rs

-- no range of them meets this one
abbrev pub NoneMeets : List ApartRun → Interval → Type 0
NoneMeets rs range = AllByRecursion (λ (a : ApartRun). meets a.range range ≡ false) rs
