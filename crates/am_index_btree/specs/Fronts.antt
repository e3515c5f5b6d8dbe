-- The fronts of places, which follow their order.
use Rattle.std.specs.Prelude.{ℕ, ◌+◌, ◌-◌, ◌*◌, ◌/◌, ◌^◌, List, [], ◌∷◌, ◌≤◌, map, min, nat_lt, if◌then◌else◌}
use Rattle.std.specs.List.{AllByRecursion}
use Rattle.am_record.specs.EntryOrder.{Place}
use Rattle.am_record.specs.KeyFront.{key_front}
use Rattle.am_index_btree.specs.declared.separator.Separator.{Separator}
use Rattle.am_index_btree.specs.Separators.{separator_place}

-- a key's front in 48 bits: one below 2^47 as it is, and the upper 47 bits of any other
unfoldable pub short_front : ℕ → ℕ
short_front n = if nat_lt n (2 ^ 47) then n else min (2 ^ 47 + n / 2 ^ 17) (2 ^ 48 - 1)

-- the partition as the upper 16 bits of 64, and the key's short front as the others. All places from the partition
-- 65,535 on have one front, the highest
unfoldable pub place_front : Place → ℕ
place_front p = if nat_lt p.0 65535 then p.0 * 2 ^ 48 + short_front (key_front p.1) else 2 ^ 64 - 1

-- those of separators, one for each
abbrev pub fronts_of : List Separator → List ℕ
fronts_of separators = map (λ l. place_front (separator_place l)) separators

-- no front is below one before it
abbrev pub FrontsRise : List ℕ → Type 0
FrontsRise [] = Unit {0}
FrontsRise (n ∷ ns) = AllByRecursion (λ m. n ≤ m) ns × FrontsRise ns
