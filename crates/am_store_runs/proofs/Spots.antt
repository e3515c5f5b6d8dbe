-- Records that are named by where they stand, in another order.
use Rattle.std.proofs.Common.{◌≡◌, ◌<◌, ◌≤◌, ◌-◌, ◌+◌, ℕ, List, [], ◌∷◌, ◌++◌, length, get_or, take, drop, sym, ap, ◌∙◌}
use Rattle.std.proofs.Common.{subst, arith}
use Rattle.std.proofs.lemmas.List.{length-take-le, length-drop, take_more, get_or-drop, map-append}
use Rattle.std.specs.List.{AllByRecursion}
use Rattle.std.specs.List.Sorted.{IsPermutation}
use Rattle.std.proofs.lemmas.List.Elements.{All-from_recursion, recursion_from_All}
use Rattle.std.proofs.lemmas.List.Sorted.{All-permutation, IsPermutation-map}
use Rattle.am_record.specs.OrderedKey.{key_least}
use Rattle.am_record.specs.Plain.{Records}
use Rattle.am_record.proofs.Lists.{AllByRecursion-push}
use Rattle.am_store_runs.specs.RecordPlaces.{IsSpot, AreSpots, records_at, piece}
use Rattle.am_store_runs.specs.declared.record_order.Spot.{Spot}

pub all_permuted : (P : Spot → Type 0) (ss ts : List Spot) → IsPermutation ss ts → AllByRecursion P ss →
    AllByRecursion P ts
all_permuted P ss ts p h = recursion_from_All P ts (All-permutation P ss ts p (All-from_recursion P ss h))

pub spots_permuted : (rs : Records) (ss ts : List Spot) → IsPermutation ss ts → AreSpots rs ss → AreSpots rs ts
spots_permuted rs ss ts p h = record { each = all_permuted (IsSpot rs) ss ts p h.each }

pub named_permuted : (rs some : Records) (ss ts : List Spot) → IsPermutation ss ts → records_at rs ss ≡ some →
    IsPermutation some (records_at rs ts)
named_permuted rs some ss ts p all = subst (λ (l : Records). IsPermutation l (records_at rs ts)) all
    (IsPermutation-map (λ (s : Spot). get_or rs s.place (key_least, [])) ss ts p)

-- ---- the records from one place to another

pub piece_long : (rs : Records) (from to : ℕ) → from ≤ to → to ≤ length rs → length (piece rs from to) ≡ to - from
piece_long rs from to order within =
    length-take-le (to - from) (drop from rs) (omega (arith, order, within, length-drop from rs))

pub piece_more : (rs : Records) (from at : ℕ) → from ≤ at → at < length rs →
    piece rs from (at + 1) ≡ piece rs from at ++ get_or rs at (key_least, []) ∷ []
piece_more rs from at order within =
    let one_more : at + 1 - from ≡ at - from + 1 = omega (arith, order) in
    let back : from + (at - from) ≡ at = omega (arith, order) in
    ap (λ n. take n (drop from rs)) one_more
    ∙ take_more (drop from rs) (at - from) (key_least, []) (omega (arith, order, within, length-drop from rs))
    ∙ ap (λ r. piece rs from at ++ r ∷ []) (get_or-drop from rs (at - from) (key_least, [])
    ∙ ap (λ n. get_or rs n (key_least, [])) back)

-- one record more is named
pub named_more : (rs : Records) (ss : List Spot) (s : Spot) (from : ℕ) → from ≤ s.place → s.place < length rs →
    records_at rs ss ≡ piece rs from s.place → records_at rs (ss ++ s ∷ []) ≡ piece rs from (s.place + 1)
named_more rs ss s from order within are =
    map-append (λ (t : Spot). get_or rs t.place (key_least, [])) ss (s ∷ [])
    ∙ ap (λ (l : Records). l ++ get_or rs s.place (key_least, []) ∷ []) are
    ∙ sym (piece_more rs from s.place order within)

pub spots_more : (rs : Records) (ss : List Spot) (s : Spot) → AreSpots rs ss → IsSpot rs s → AreSpots rs (ss ++ s ∷ [])
spots_more rs ss s are is = record { each = AllByRecursion-push (IsSpot rs) ss s are.each is }
