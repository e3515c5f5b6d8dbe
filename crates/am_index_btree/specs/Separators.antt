-- The places at which the children of an inner node begin.
use Rattle.std.specs.Prelude.{◌≡◌, ◌≢◌, ℕ, suc, zero, ◌<◌, ◌≤◌, List, [], ◌∷◌, length, take, drop, slice_set}
use Rattle.std.specs.Prelude.{slice_index_or, ◌⊎◌}
use Rattle.std.specs.declared.cmp.Ordering.TheVariants.{Less, Greater}
use Rattle.std.specs.List.{AllByRecursion}
use Rattle.am_record.specs.OrderedKey.{OrderedKey}
use Rattle.am_record.specs.declared.entry.Entry.{Entry}
use Rattle.am_record.specs.EntryOrder.{Place, place_cmp}
use Rattle.am_index_btree.specs.declared.separator.Separator.{Separator}

abbrev pub separator_place : Separator → Place
separator_place l = (l.part, l.key)

-- each is below all later ones
abbrev pub SeparatorsRise : List Separator → Type 0
SeparatorsRise [] = Unit {0}
SeparatorsRise (l ∷ ls) = AllByRecursion (λ m. place_cmp (separator_place l) (separator_place m) ≡ Less) ls ×
    SeparatorsRise ls

-- the first n begin at or below the place, the others above it
pub record IsReach (separators : List Separator) (part : ℕ) (key : OrderedKey) (n : ℕ) : Type 0 where
  pub in_range : n ≤ length separators
  pub reached : AllByRecursion (λ l. place_cmp (separator_place l) (part, key) ≢ Greater) (take n separators)
  pub above : AllByRecursion (λ l. place_cmp (separator_place l) (part, key) ≡ Greater) (drop n separators)

-- the children after the index begin above the place, and the child at the index, unless it is the first, does not
pub record IsChildFor (separators : List Separator) (part : ℕ) (key : OrderedKey) (i : ℕ) : Type 0 where
  pub in_range : i < length separators
  pub reached : (i ≡ 0) ⊎ ((d : Separator) → place_cmp (separator_place (slice_index_or separators i d))
      (part, key) ≢ Greater)
  pub above : AllByRecursion (λ l. place_cmp (separator_place l) (part, key) ≡ Greater) (drop (suc i) separators)

abbrev pub separator_for : Entry → Separator
separator_for e = record { part = e.part; key = e.key }

-- where the place of the entry is below all, the first begins there
abbrev pub lowered : List Separator → ℕ → Entry → List Separator
lowered ls zero e = slice_set ls 0 (separator_for e)
lowered ls (suc n) e = ls
