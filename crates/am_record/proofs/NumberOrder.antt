-- Items with numbers that never fall along their list: those below a number come first, and those of it next.
use Rattle.std.proofs.Common.{◌≡◌, ℕ, zero, suc, ◌+◌, ◌<◌, ◌≤◌, true, false, List, [], ◌∷◌, take, drop, nat_eq, nat_lt}
use Rattle.std.proofs.Common.{cond, ⊎_elim, refl, sym, ◌∙◌, subst, arith}
use Rattle.std.proofs.lemmas.Bool.{cases_Bool, cond-true, cond-false, ltb-true, ltb-false, le-ltb, eqb-false}
use Rattle.std.proofs.lemmas.List.Sums.{sum_by-cons}
use Rattle.std.specs.List.{AllByRecursion, count_by, prefix_len}
use Rattle.am_record.proofs.Lists.{AllByRecursion-map}

module _ {X : Type 0} (number : X → ℕ) where
  -- no item's number is below that of one before it
  abbrev pub NeverFalls : List X → Type 0
  NeverFalls [] = Unit {0}
  NeverFalls (x ∷ xs) = AllByRecursion (λ y. number x ≤ number y) xs × NeverFalls xs

  pub falls-drop : (n : ℕ) (xs : List X) → NeverFalls xs → NeverFalls (drop n xs)
  falls-drop zero xs r = r
  falls-drop (suc n) [] r = tt
  falls-drop (suc n) (x ∷ xs) r = falls-drop n xs r.1

  module _ (n : ℕ) where
    -- how many numbers are below the one
    abbrev lower : List X → ℕ
    lower xs = count_by (λ x. nat_lt (number x) n) xs

    -- how many of the first are the one
    abbrev alike : List X → ℕ
    alike xs = prefix_len (λ x. nat_eq (number x) n) xs

    abbrev AreLower : List X → Type 0
    AreLower xs = AllByRecursion (λ x. number x < n) xs

    abbrev AreNoLower : List X → Type 0
    AreNoLower xs = AllByRecursion (λ x. n ≤ number x) xs

    abbrev AreHigher : List X → Type 0
    AreHigher xs = AllByRecursion (λ x. n < number x) xs

    lower-cons : (x : X) (xs : List X) → lower (x ∷ xs) ≡ cond {A = ℕ} (nat_lt (number x) n) 1 0 + lower xs
    lower-cons x xs = sum_by-cons (λ y. cond {A = ℕ} (nat_lt (number y) n) 1 0) x xs

    lower-yes : (x : X) (xs : List X) → nat_lt (number x) n ≡ true → lower (x ∷ xs) ≡ suc (lower xs)
    lower-yes x xs e = omega (arith, lower-cons x xs, cond-true {A = ℕ} (nat_lt (number x) n) 1 0 e)

    lower-no : (x : X) (xs : List X) → nat_lt (number x) n ≡ false → lower (x ∷ xs) ≡ lower xs
    lower-no x xs e = omega (arith, lower-cons x xs, cond-false {A = ℕ} (nat_lt (number x) n) 1 0 e)

    none_lower : (xs : List X) → AreNoLower xs → lower xs ≡ 0
    none_lower [] a = refl
    none_lower (x ∷ xs) a = lower-no x xs (le-ltb (number x) n a.0) ∙ none_lower xs a.1

    -- what stands after an item that isn't below, or is above
    no_lower : (x : X) (xs : List X) → NeverFalls (x ∷ xs) → n ≤ number x → AreNoLower xs
    no_lower x xs r le = AllByRecursion-map (λ y. number x ≤ number y) (λ y. n ≤ number y)
        (λ y more. omega (arith, le, more)) xs r.0

    higher : (x : X) (xs : List X) → NeverFalls (x ∷ xs) → n < number x → AreHigher xs
    higher x xs r lt = AllByRecursion-map (λ y. number x ≤ number y) (λ y. n < number y)
        (λ y more. omega (arith, lt, more)) xs r.0

    -- the lower ones come first
    pub lower_first : (xs : List X) → NeverFalls xs →
        AreLower (take (lower xs) xs) × AreNoLower (drop (lower xs) xs)
    lower_first [] r = (tt, tt)
    lower_first (x ∷ xs) r =
        ⊎_elim
        (λ e. let rest = lower_first xs r.1 in
        subst (λ k. AreLower (take k (x ∷ xs)) × AreNoLower (drop k (x ∷ xs))) (sym (lower-yes x xs e))
        ((ltb-true (number x) n e, rest.0), rest.1))
        (λ e. let le = ltb-false (number x) n e in let all = no_lower x xs r le in
        subst (λ k. AreLower (take k (x ∷ xs)) × AreNoLower (drop k (x ∷ xs))) (sym (none_lower (x ∷ xs) (le, all)))
        (tt, (le, all)))
        (cases_Bool (nat_lt (number x) n))

    alike-yes : (x : X) (xs : List X) → nat_eq (number x) n ≡ true → alike (x ∷ xs) ≡ suc (alike xs)
    alike-yes x xs e = omega (arith, cond-true (nat_eq (number x) n) (1 + alike xs) 0 e)

    alike-no : (x : X) (xs : List X) → nat_eq (number x) n ≡ false → alike (x ∷ xs) ≡ 0
    alike-no x xs e = cond-false (nat_eq (number x) n) (1 + alike xs) 0 e

    -- after the lower ones and those of the number stand higher ones
    pub higher_last : (xs : List X) → NeverFalls xs → AreNoLower xs → AreHigher (drop (alike xs) xs)
    higher_last [] r a = tt
    higher_last (x ∷ xs) r a =
        ⊎_elim
        (λ e. subst (λ k. AreHigher (drop k (x ∷ xs))) (sym (alike-yes x xs e)) (higher_last xs r.1 a.1))
        (λ e. let differs = eqb-false (number x) n e in let lt : n < number x = omega (arith, a.0, differs) in
        subst (λ k. AreHigher (drop k (x ∷ xs))) (sym (alike-no x xs e)) (lt, higher x xs r lt))
        (cases_Bool (nat_eq (number x) n))
