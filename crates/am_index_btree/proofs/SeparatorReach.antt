-- How far the separators of a node reach a place.
use Rattle.std.proofs.Common.{◌≡◌, ◌≢◌, ℕ, zero, suc, ◌<◌, ◌≤◌, true, false, List, [], ◌∷◌, length, get_or, refl, sym}
use Rattle.std.proofs.Common.{ap, ◌∙◌, arith}
use Rattle.std.proofs.lemmas.Bool.{false_from_ne_true, true≢false}
use Rattle.std.proofs.lemmas.List.{get_or_default}
use Rattle.std.specs.declared.cmp.Ordering.{Ordering}
use Rattle.std.specs.declared.cmp.Ordering.TheVariants.{Less, Equal, Greater}
use Rattle.std.specs.Ordering.{is_le}
use Rattle.std.specs.List.Sorted.{IsPartitionedBy}
use Rattle.am_record.specs.EntryOrder.{Place, place_cmp}
use Rattle.am_record.proofs.Orderings.{le_not_greater}
use Rattle.am_record.proofs.Lists.{AllByRecursion-at}
use Rattle.am_index.proofs.Searches.{all_take, all_drop}
use Rattle.am_index_btree.specs.declared.separator.Separator.{Separator}
use Rattle.am_index_btree.specs.Separators.{separator_place, SeparatorsRise, IsReach}
use Rattle.am_index_btree.proofs.Children.{below_through}

pub le_false : (o : Ordering) → is_le o ≡ false → o ≡ Greater
le_false Less e = absurd (cc)
le_false Equal e = absurd (cc)
le_false Greater e = refl

parted : (p : Place) (ls : List Separator) → SeparatorsRise ls →
    IsPartitionedBy (λ l. is_le (place_cmp (separator_place l) p)) ls
parted p [] r i j d le lt h = absurd (omega arith)
parted p (l ∷ ls) r zero zero d le lt h = h
parted p (l ∷ ls) r zero (suc j) d le lt h =
    let m = get_or ls j d in
    ap is_le (below_through (separator_place l) (separator_place m) p
    (AllByRecursion-at (λ n. place_cmp (separator_place l) (separator_place n) ≡ Less) ls j d r.0 (omega arith))
    (le_not_greater (place_cmp (separator_place m) p) h))
parted p (l ∷ ls) r (suc i) zero d le lt h = absurd (omega arith)
parted p (l ∷ ls) r (suc i) (suc j) d le lt h = parted p ls r.1 i j d (omega arith) (omega arith) h

-- the first n stand at or below the place
abbrev pub AreReached : Place → List Separator → ℕ → Type 0
AreReached p ls n = (k : ℕ) (d : Separator) → k < n → is_le (place_cmp (separator_place (get_or ls k d)) p) ≡ true

module _ (p : Place) (ls : List Separator) (rise : SeparatorsRise ls) (j : ℕ) (s : Separator) (within : j < length ls)
    (here : s ≡ get_or ls j s) where
  there : (d : Separator) → s ≡ get_or ls j d
  there d = here ∙ get_or_default ls j s d within

  -- where one stands at or below the place, those before it do
  pub reached_to : is_le (place_cmp (separator_place s) p) ≡ true → (n : ℕ) → n ≤ suc j → AreReached p ls n
  reached_to h n le k d lt = parted p ls rise k j d (omega (arith, lt, le)) within
      (ap (λ (l : Separator). is_le (place_cmp (separator_place l) p)) (sym (there d)) ∙ h)

  -- and where one stands above it, those after it do
  above_from : is_le (place_cmp (separator_place s) p) ≡ false → (k : ℕ) (d : Separator) → j ≤ k → k < length ls →
      is_le (place_cmp (separator_place (get_or ls k d)) p) ≡ false
  above_from h k d le lt =
      false_from_ne_true _ (λ e. true≢false (sym (parted p ls rise j k d le lt e) ∙
      ap (λ (l : Separator). is_le (place_cmp (separator_place l) p)) (sym (there d)) ∙ h))

  pub reached_no_further : is_le (place_cmp (separator_place s) p) ≡ false → AreReached p ls j → IsReach ls p.0 p.1 j
  reached_no_further h passed = record {
    in_range = omega (arith, within);
    reached = all_take (λ l. place_cmp (separator_place l) p ≢ Greater) ls j (omega (arith, within))
        (λ k d lt. le_not_greater _ (passed k d lt));
    above = all_drop (λ l. place_cmp (separator_place l) p ≡ Greater) ls j
        (λ k d le lt. le_false _ (above_from h k d le lt));
  }

-- all of them
pub reached_all : (p : Place) (ls : List Separator) (n : ℕ) → n ≡ length ls → AreReached p ls n → IsReach ls p.0 p.1 n
reached_all p ls n whole passed = record {
  in_range = omega (arith, whole);
  reached = all_take (λ l. place_cmp (separator_place l) p ≢ Greater) ls n (omega (arith, whole))
      (λ k d lt. le_not_greater _ (passed k d lt));
  above = all_drop (λ l. place_cmp (separator_place l) p ≡ Greater) ls n
      (λ k d le lt. absurd (omega (arith, whole, le, lt)));
}
