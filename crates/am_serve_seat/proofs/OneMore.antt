-- What is told of one session more.
use Rattle.std.proofs.Common.{◌≡◌, ℕ, ◌+◌, ◌<◌, List, [], ◌∷◌, ◌++◌, length, take, get_or, Option, sym, ap, ◌∙◌}
use Rattle.std.specs.List.{filter_map, cons_option}
use Rattle.std.proofs.lemmas.List.{take_more}
use Rattle.std.proofs.lemmas.List.Elements.{filter_map-append}

pub filter_map-more : {X Y : Type 0} (h : X → Option Y) (xs : List X) (i : ℕ) (d : X) (o : Option Y) → i < length xs →
    o ≡ h (get_or xs i d) → filter_map h (take (i + 1) xs) ≡ filter_map h (take i xs) ++ cons_option o []
filter_map-more h xs i d o inside is =
    ap (filter_map h) (take_more xs i d inside)
    ∙ filter_map-append h (take i xs) (get_or xs i d ∷ [])
    ∙ ap (λ (one : Option _). filter_map h (take i xs) ++ cons_option one []) (sym is)
