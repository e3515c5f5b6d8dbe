-- Rising fronts in groups, of each of which the last one is asked.
use Rattle.std.proofs.Common.{◌≡◌, ℕ, zero, suc, ◌+◌, ◌<◌, ◌≤◌, List, [], ◌∷◌, length, get_or, take, drop}
use Rattle.std.proofs.Common.{nat_lt, cond, refl, arith}
use Rattle.std.proofs.lemmas.Bool.{cond-true, cond-false, lt-ltb, le-ltb}
use Rattle.std.proofs.lemmas.List.{get_or-drop, get_or_default, length-drop}
use Rattle.std.proofs.lemmas.List.Sums.{sum_by-cons}
use Rattle.std.specs.List.{AllByRecursion, count_by}
use Rattle.am_record.proofs.Lists.{AllByRecursion-at}
use Rattle.am_index.proofs.Searches.{all_take, all_drop}
use Rattle.am_index_btree.specs.Fronts.{FrontsRise}

no_less : (fs : List ℕ) → FrontsRise fs → (i j d : ℕ) → i ≤ j → j < length fs → get_or fs i d ≤ get_or fs j d
no_less [] r i j d le lt = absurd (omega arith)
no_less (f ∷ fs) r zero zero d le lt = omega arith
no_less (f ∷ fs) r zero (suc j) d le lt = AllByRecursion-at (λ m. f ≤ m) fs j d r.0 (omega arith)
no_less (f ∷ fs) r (suc i) zero d le lt = absurd (omega arith)
no_less (f ∷ fs) r (suc i) (suc j) d le lt = no_less fs r.1 i j d (omega arith) (omega arith)

module _ (front : ℕ) (fs : List ℕ) (rise : FrontsRise fs) where
  -- where one is below, so are those before it
  pub below_to : (n d : ℕ) → suc n ≤ length fs → get_or fs n 0 < front →
      AllByRecursion (λ other. other < front) (take (suc n) fs)
  below_to n d within h = all_take (λ other. other < front) fs (suc n) within
      (λ k e lt. omega (
        arith,
        h,
        get_or_default fs k e 0 (omega (arith, lt, within)),
        no_less fs rise k n 0 (omega (arith, lt)) (omega (arith, within)),
      ))

  -- where one isn't, no later one is
  pub above_from : (passed : ℕ) → (passed + 7 < length fs → front ≤ get_or fs (passed + 7) 0) →
      AllByRecursion (λ other. front ≤ other) (drop 8 (drop passed fs))
  above_from passed h = all_drop (λ other. front ≤ other) (drop passed fs) 8
      (λ k d le lt.
      let within : passed + k < length fs = omega (arith, lt, length-drop passed fs) in
      let last = h (omega (arith, le, within)) in
      let more = no_less fs rise (passed + 7) (passed + k) d (omega (arith, le)) within in
      omega (
        arith,
        last,
        more,
        get_or-drop passed fs k d,
        get_or_default fs (passed + 7) d 0 (omega (arith, le, within)),
      ))

module _ (front : ℕ) where
  abbrev lower : List ℕ → ℕ
  lower fs = count_by (λ other. nat_lt other front) fs

  lower-cons : (f : ℕ) (fs : List ℕ) → lower (f ∷ fs) ≡ cond {A = ℕ} (nat_lt f front) 1 0 + lower fs
  lower-cons f fs = sum_by-cons (λ other. cond {A = ℕ} (nat_lt other front) 1 0) f fs

  -- the first that are below, and the others
  pub counted : (n : ℕ) (fs : List ℕ) → n ≤ length fs → AllByRecursion (λ other. other < front) (take n fs) →
      lower fs ≡ n + lower (drop n fs)
  counted zero fs le a = omega arith
  counted (suc n) [] le a = absurd (omega arith)
  counted (suc n) (f ∷ fs) le a =
      omega (
        arith,
        lower-cons f fs,
        cond-true {A = ℕ} (nat_lt f front) 1 0 (lt-ltb f front a.0),
        counted n fs (omega arith) a.1,
      )

  none_lower : (fs : List ℕ) → AllByRecursion (λ other. front ≤ other) fs → lower fs ≡ 0
  none_lower [] a = refl
  none_lower (f ∷ fs) a =
      omega (arith, lower-cons f fs, cond-false {A = ℕ} (nat_lt f front) 1 0 (le-ltb f front a.0), none_lower fs a.1)

  -- no more of them are below where the others aren't
  pub counted_first : (n : ℕ) (fs : List ℕ) → AllByRecursion (λ other. front ≤ other) (drop n fs) →
      lower fs ≡ lower (take n fs)
  counted_first zero fs a = none_lower fs a
  counted_first (suc n) [] a = refl
  counted_first (suc n) (f ∷ fs) a =
      omega (arith, lower-cons f fs, lower-cons f (take n fs), counted_first n fs a)
