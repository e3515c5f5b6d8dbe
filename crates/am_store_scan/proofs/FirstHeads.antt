-- The head of several that is read first.
use Rattle.std.proofs.Common.{◌≡◌, ◌≢◌, ℕ, ◌<◌, List, [], ◌∷◌, Bool, true, false, length, get_or, refl, sym, ap, ◌∙◌}
use Rattle.std.proofs.Common.{arith}
use Rattle.std.proofs.lemmas.Bool.{true≢false}
use Rattle.std.proofs.lemmas.List.{get_or_default}
use Rattle.std.proofs.lemmas.List.Elements.{All-from_recursion, recursion_from_All}
use Rattle.std.proofs.lemmas.List.Sorted.{All-permutation, IsPermutation-cons, IsPermutation-swap, IsPermutation-trans}
use Rattle.std.specs.declared.cmp.Ordering.{Ordering}
use Rattle.std.specs.declared.cmp.Ordering.TheVariants.{Less, Equal, Greater}
use Rattle.std.specs.Ordering.{is_lt, is_le, nat_cmp, ordering_reverse}
use Rattle.std.proofs.lemmas.Cmp.{ranked}
use Rattle.std.specs.List.Sorted.{IsPermutation}
use Rattle.std.specs.BinaryHeap.{IsUpperBound}
use Rattle.am_store_scan.specs.Directions.{order_in, cmp_in}
use Rattle.am_store_scan.specs.Heads.{Stand, head_cmp}
use Rattle.am_record.specs.OrderedKey.{OrderedKey, key_cmp, key_cmp-total}
use Rattle.am_record.specs.KeyFront.{key_front}
use Rattle.am_store_scan.proofs.HeadMoves.{less_le}

-- where the fronts of two keys differ, they stand as their keys do
pub fronts_tell : ((a b : OrderedKey) → key_front a < key_front b → key_cmp a b ≡ Less) → (a b : OrderedKey) (x y : ℕ) →
    x ≡ key_front a → y ≡ key_front b → (o : Ordering) → o ≡ nat_cmp x y → o ≢ Equal → o ≡ key_cmp a b
fronts_tell law a b x y of_a of_b Less is differs =
    let less : x < y = ranked x y Less is in sym (law a b (omega (arith, less, of_a, of_b)))
fronts_tell law a b x y of_a of_b Equal is differs = absurd (differs refl)
fronts_tell law a b x y of_a of_b Greater is differs =
    let less : y < x = ranked x y Greater is in
    sym (key_cmp-total.antisymm a b ∙ ap ordering_reverse (law b a (omega (arith, less, of_a, of_b))))

-- as they are read, too
pub turned_order : (back : Bool) (a b : OrderedKey) → order_in back (key_cmp a b) ≡ cmp_in back a b
turned_order false a b = refl
turned_order true a b = sym (key_cmp-total.antisymm b a)

above_not_below : (o : Ordering) → is_le o ≡ false → is_lt o ≡ false
above_not_below Less h = absurd (true≢false h)
above_not_below Equal h = refl
above_not_below Greater h = refl

-- the top of a heap that was looked at is the one that is taken
pub same_top : {A : Type 0} (xs : List A) (seen top : A) → 0 < length xs → seen ≡ get_or xs 0 seen →
    top ≡ get_or xs 0 top → top ≡ seen
same_top xs seen top some is_seen is_top = is_top ∙ get_or_default xs 0 top seen some ∙ sym is_seen

-- two at the front in each other's place
pub turned_round : (a b : Stand) (heads : List Stand) → IsPermutation (a ∷ b ∷ heads) (b ∷ a ∷ heads)
turned_round a b heads = IsPermutation-swap (a ∷ b ∷ heads) (b ∷ a ∷ heads) 0 1 (omega arith) (omega arith) refl

-- the first one leaves a heap, and another one comes
pub changed_places : (a b : Stand) (old rest new : List Stand) → IsPermutation old (b ∷ rest) →
    IsPermutation (a ∷ rest) new → IsPermutation (a ∷ old) (b ∷ new)
changed_places a b old rest new popped pushed =
    IsPermutation-trans (a ∷ old) (a ∷ b ∷ rest) (b ∷ new) (IsPermutation-cons a old (b ∷ rest) popped)
    (IsPermutation-trans (a ∷ b ∷ rest) (b ∷ a ∷ rest) (b ∷ new) (turned_round a b rest)
    (IsPermutation-cons b (a ∷ rest) new pushed))

module _ (back : Bool) where
  -- above a head that is not below any of these
  pub not_below_others : (a b : Stand) (heads : List Stand) → is_le (head_cmp back b a) ≡ true →
      IsUpperBound (head_cmp back) b heads → IsUpperBound (head_cmp back) a heads
  not_below_others a b [] over bound = tt
  not_below_others a b (y ∷ ys) over bound = (by_order (head_cmp back a y) refl, not_below_others a b ys over bound.1)
    where
      by_order : (o : Ordering) → head_cmp back a y ≡ o → is_lt (head_cmp back a y) ≡ false
      by_order Less e =
          absurd (true≢false (sym (ap is_lt (less_le back y.key a.key b.key (cmp_in back a.key b.key)
          e
          refl over)) ∙ bound.0))
      by_order Equal e = ap is_lt e
      by_order Greater e = ap is_lt e

  pub bound_of_both : (a b : Stand) (old rest new : List Stand) → is_le (head_cmp back b a) ≡ false →
      IsUpperBound (head_cmp back) b old → IsPermutation old (b ∷ rest) → IsPermutation (a ∷ rest) new →
      IsUpperBound (head_cmp back) b new
  bound_of_both a b old rest new over bound popped pushed =
      let P : Stand → Type 0 = λ y. is_lt (head_cmp back b y) ≡ false in
      let both = recursion_from_All P (b ∷ rest) (All-permutation P old (b ∷ rest) popped
      (All-from_recursion P old bound)) in
      recursion_from_All P new (All-permutation P (a ∷ rest) new pushed
      (All-from_recursion P (a ∷ rest) (above_not_below (head_cmp back b a) over, both.1)))
