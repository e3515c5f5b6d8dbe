-- Places that rise, and the stretch of them that one may be among.
use Rattle.std.specs.Prelude.{◌≡◌, ℕ, ◌≤◌, List, [], ◌∷◌, length, take, drop}
use Rattle.std.specs.declared.cmp.Ordering.TheVariants.{Less, Greater}
use Rattle.std.specs.List.{AllByRecursion}
use Rattle.am_record.specs.EntryOrder.{Place, place_cmp}

-- each place is below all later ones
abbrev pub PlacesRise : List Place → Type 0
PlacesRise [] = Unit {0}
PlacesRise (p ∷ ps) = AllByRecursion (λ q. place_cmp p q ≡ Less) ps × PlacesRise ps

-- the places before the stretch from low to high are below the one, and those after it above
pub record IsStretchFor (ps : List Place) (p : Place) (low high : ℕ) : Type 0 where
  pub ordered : low ≤ high
  pub in_range : high ≤ length ps
  pub below : AllByRecursion (λ q. place_cmp q p ≡ Less) (take low ps)
  pub above : AllByRecursion (λ q. place_cmp q p ≡ Greater) (drop high ps)
