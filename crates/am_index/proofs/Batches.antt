-- What a batch takes of the entries of a partition from a key on.
use Rattle.std.proofs.Common.{◌≡◌, ◌≢◌, ℕ, zero, suc, ◌+◌, ◌<◌, ◌≤◌, add-one, Bool, true, false, ◌&&◌, eqb, List, []}
use Rattle.std.proofs.Common.{◌∷◌, ◌++◌, length, get_or, take, drop, refl, sym, ap, ◌∙◌, subst, ⊎_elim, arith}
use Rattle.std.proofs.Math.Seq.{drop-cons}
use Rattle.std.proofs.lemmas.List.Sums.{take_while-cons}
use Rattle.std.proofs.lemmas.Bool.{cond-true, cond-false, cases_Bool, and_from, and_right}
use Rattle.std.proofs.lemmas.List.{take-append-drop}
use Rattle.std.proofs.lemmas.List.Elements.{filter-append}
use Rattle.std.specs.List.{AllByRecursion, filter, take_while}
use Rattle.std.specs.declared.cmp.Ordering.{Ordering}
use Rattle.std.specs.declared.cmp.Ordering.TheVariants.{Less, Greater}
use Rattle.std.specs.Ordering.{is_ge, is_gt}
use Rattle.am_record.specs.OrderedKey.{OrderedKey}
use Rattle.am_record.specs.declared.entry.Entry.{Entry}
use Rattle.am_record.specs.EntryOrder.{Place, place_of, place_cmp}
use Rattle.am_record.proofs.Lists.{AllByRecursion-map}
use Rattle.am_index.specs.Entries.{all_after, IsRising, all_from}
use Rattle.am_index.specs.Places.{AllAbove, IsUpperBound, NoneBelow, IsLowerBound}
use Rattle.am_index.proofs.Lists.{not_greater, differ, other_part, later_parts, rising_back, not_less}

-- a list that is not too long is taken whole
pub take_whole : {X : Type 0} (n : ℕ) (xs : List X) → length xs ≤ n → take n (xs ++ []) ≡ xs
take_whole zero [] fits = refl
take_whole (suc n) [] fits = refl
take_whole zero (x ∷ xs) fits = absurd (omega (arith, fits))
take_whole (suc n) (x ∷ xs) fits = ap (λ l. x ∷ l) (take_whole n xs (omega (arith, fits)))

-- nothing is taken where there is no room
pub take_full : {X : Type 0} (n : ℕ) (xs ys : List X) → length xs ≡ n → take n (xs ++ ys) ≡ xs
take_full zero [] ys full = refl
take_full (suc n) [] ys full = absurd (omega (arith, full))
take_full zero (x ∷ xs) ys full = absurd (omega (arith, full))
take_full (suc n) (x ∷ xs) ys full = ap (λ l. x ∷ l) (take_full n xs ys (omega (arith, full)))

-- what is taken of one list and then of the next is what is taken of both
pub take_both : {X : Type 0} (n : ℕ) (xs ys : List X) → take n (take n xs ++ ys) ≡ take n (xs ++ ys)
take_both zero xs ys = refl
take_both (suc n) [] ys = refl
take_both (suc n) (x ∷ xs) ys = ap (λ l. x ∷ l) (take_both n xs ys)

module _ {X : Type 0} (test : X → Bool) (xs : List X) (i : ℕ) (x : X) (within : i < length xs)
    (here : x ≡ get_or xs i x) where
  rest_is : drop i xs ≡ x ∷ drop (suc i) xs
  rest_is = drop-cons xs i x within ∙ ap (λ y. y ∷ drop (suc i) xs) (sym here)

  -- the front that passes the test goes on
  pub passes_on : test x ≡ true → take_while test (drop i xs) ≡ x ∷ take_while test (drop (i + 1) xs)
  passes_on h =
      ap (take_while test) rest_is ∙ take_while-cons test x (drop (suc i) xs) ∙
      cond-true (test x) (x ∷ take_while test (drop (suc i) xs)) [] h
      ∙ ap (λ k. x ∷ take_while test (drop k xs)) (sym (add-one i))

  -- and ends
  pub ends_here : test x ≡ false → take_while test (drop i xs) ≡ []
  ends_here h = ap (take_while test) rest_is ∙ take_while-cons test x (drop (suc i) xs) ∙
      cond-false (test x) (x ∷ take_while test (drop (suc i) xs)) [] h

filter_none : (test : Entry → Bool) (xs : List Entry) → AllByRecursion (λ e. test e ≡ false) xs → filter test xs ≡ []
filter_none test [] none = refl
filter_none test (x ∷ xs) none = rw none.0 (filter_none test xs none.1)

-- ---- the entries of the partition that a test of their order against the place lets through

module _ (part : ℕ) (key : OrderedKey) (reached : Ordering → Bool) where
  abbrev p : Place
  p = (part, key)

  abbrev c : Entry → Ordering
  c e = place_cmp (place_of e) p

  abbrev in_part : Entry → Bool
  in_part e = eqb e.part part

  abbrev pub all_reached : List Entry → List Entry
  all_reached es = filter (λ e. in_part e && reached (c e)) es

  pub all_reached-append : (xs ys : List Entry) → all_reached (xs ++ ys) ≡ all_reached xs ++ all_reached ys
  all_reached-append xs ys = filter-append (λ e. in_part e && reached (c e)) xs ys

  pub all_reached_none : (xs : List Entry) → AllByRecursion (λ e. reached (c e) ≡ false) xs → all_reached xs ≡ []
  all_reached_none xs b = filter_none (λ e. in_part e && reached (c e)) xs
      (AllByRecursion-map (λ e. reached (c e) ≡ false) (λ e. (in_part e && reached (c e)) ≡ false)
      (λ e h. and_right (in_part e) (reached (c e)) h) xs b)

  pub all_reached_others : (xs : List Entry) → AllByRecursion (λ e. e.part ≢ part) xs → all_reached xs ≡ []
  all_reached_others xs others = filter_none (λ e. in_part e && reached (c e)) xs
      (AllByRecursion-map (λ e. e.part ≢ part) (λ e. (in_part e && reached (c e)) ≡ false)
      (λ e h. other_part part key (λ f. reached (c f)) e h) xs others)

  -- of entries that are all reached, and not below the key, they are those with which the list begins
  pub all_reached_front : (ys : List Entry) → IsRising ys → AllByRecursion (λ e. reached (c e) ≡ true) ys →
      NoneBelow p ys → take_while in_part ys ≡ all_reached ys
  all_reached_front [] rising all from = refl
  all_reached_front (y ∷ ys) rising all from =
      ⊎_elim
      (λ same.
      take_while-cons in_part y ys ∙ cond-true (in_part y) (y ∷ take_while in_part ys) [] same ∙
      ap (λ l. y ∷ l) (all_reached_front ys rising.1 all.1 from.1)
      ∙ sym (cond-true (in_part y && reached (c y)) (y ∷ all_reached ys) (all_reached ys)
      (and_from (in_part y) (reached (c y)) same all.0)))
      (λ other.
      take_while-cons in_part y ys ∙ cond-false (in_part y) (y ∷ take_while in_part ys) [] other ∙
      sym (all_reached_others (y ∷ ys) (later_parts part key y ys from.0 (differ y.part part other) rising)))
      (cases_Bool (in_part y))

  all_reached_at : (es : List Entry) (i : ℕ) → AllByRecursion (λ e. reached (c e) ≡ false) (take i es) →
      AllByRecursion (λ e. reached (c e) ≡ true) (drop i es) → NoneBelow p (drop i es) → IsRising es
      → take_while in_part (drop i es) ≡ all_reached es
  all_reached_at es i none all from rising =
      let whole : take i es ++ drop i es ≡ es = take-append-drop i es in
      all_reached_front (drop i es) (rising_back (take i es) (drop i es) (subst IsRising (sym whole) rising)) all from
      ∙ ap (λ l. l ++ all_reached (drop i es)) (sym (all_reached_none (take i es) none))
      ∙ sym (all_reached-append (take i es) (drop i es))
      ∙ ap all_reached whole

pub above_not_less : (o : Ordering) → o ≡ Greater → o ≢ Less
above_not_less o above less = absurd (cc)

module _ (part : ℕ) (key : OrderedKey) where
  abbrev against : Entry → Ordering
  against e = place_cmp (place_of e) (part, key)

  none_below : (ys : List Entry) → AllAbove (part, key) ys → NoneBelow (part, key) ys
  none_below ys above = AllByRecursion-map (λ e. against e ≡ Greater) (λ e. against e ≢ Less)
      (λ e h. above_not_less (against e) h) ys above

  pub all_after_front : (ys : List Entry) → IsRising ys → AllAbove (part, key) ys →
      take_while (λ e. eqb e.part part) ys ≡ all_after ys part key
  all_after_front ys rising above = all_reached_front part key is_gt ys rising
      (AllByRecursion-map (λ e. against e ≡ Greater) (λ e. is_gt (against e) ≡ true) (λ e h. ap is_gt h) ys above)
      (none_below ys above)

  pub all_after_at : (es : List Entry) (i : ℕ) → IsUpperBound es part key i → IsRising es →
      take_while (λ e. eqb e.part part) (drop i es) ≡ all_after es part key
  all_after_at es i bound rising =
      all_reached_at part key is_gt es i
      (AllByRecursion-map (λ e. against e ≢ Greater) (λ e. is_gt (against e) ≡ false) (λ e h. not_greater (against e) h)
      (take i es) bound.others)
      (AllByRecursion-map (λ e. against e ≡ Greater) (λ e. is_gt (against e) ≡ true) (λ e h. ap is_gt h) (drop i es)
      bound.above) (none_below (drop i es) bound.above) rising

  pub all_from_at : (es : List Entry) (i : ℕ) → IsLowerBound es part key i → IsRising es →
      take_while (λ e. eqb e.part part) (drop i es) ≡ all_from es part key
  all_from_at es i bound rising =
      all_reached_at part key is_ge es i
      (AllByRecursion-map (λ e. against e ≡ Less) (λ e. is_ge (against e) ≡ false) (λ e h. ap is_ge h) (take i es)
      bound.below)
      (AllByRecursion-map (λ e. against e ≢ Less) (λ e. is_ge (against e) ≡ true) (λ e h. not_less (against e) h)
      (drop i es) bound.others) bound.others rising
