-- Lists whose items' numbers never fall, and the groups of items with one number.
use Rattle.std.proofs.Common.{◌≡◌, ◌≢◌, ℕ, ◌+◌, ◌<◌, ◌≤◌, suc, zero, true, false, cond, List, [], ◌∷◌, length, get_or}
use Rattle.std.proofs.Common.{take, drop, sym, ap, ◌∙◌, subst, arith, ⊎_elim}
use Rattle.std.specs.Prelude.{nat_eq}
use Rattle.std.proofs.lemmas.Bool.{cases_Bool, eqb-true, eq-eqb, true≢false}
use Rattle.std.proofs.lemmas.List.Elements.{recursion_from_All}
use Rattle.std.specs.List.{AllByRecursion, prefix_len}
use Rattle.std.specs.List.Sorted.{IsNonDecreasingBy}
use Rattle.am_record.proofs.Lists.{AllByRecursion-map}

module _ {X : Type 0} (number : X → ℕ) where
  -- no number is below an earlier one
  abbrev pub Climbs : List X → Type 0
  Climbs [] = Unit {0}
  Climbs (x ∷ xs) = AllByRecursion (λ y. number x ≤ number y) xs × Climbs xs

  -- how many items at the beginning have the number
  abbrev pub alike : ℕ → List X → ℕ
  alike n xs = prefix_len (λ x. nat_eq (number x) n) xs

  pub climbs_from : (xs : List X) → IsNonDecreasingBy number xs → Climbs xs
  climbs_from [] h = tt
  climbs_from (x ∷ xs) h = (
    recursion_from_All (λ y. number x ≤ number y) xs (λ i d less. h 0 (suc i) d (omega arith) (omega arith)),
    climbs_from xs (λ i j d order less. h (suc i) (suc j) d (omega arith) (omega arith)),
  )

  pub climbs_drop : (k : ℕ) (xs : List X) → Climbs xs → Climbs (drop k xs)
  climbs_drop zero xs h = h
  climbs_drop (suc k) [] h = tt
  climbs_drop (suc k) (x ∷ xs) h = climbs_drop k xs h.1

  one_more : (n : ℕ) (x : X) (xs : List X) → nat_eq (number x) n ≡ true → alike n (x ∷ xs) ≡ suc (alike n xs)
  one_more n x xs same = ap (λ b. cond b (1 + alike n xs) 0) same ∙ omega arith

  none_more : (n : ℕ) (x : X) (xs : List X) → nat_eq (number x) n ≡ false → alike n (x ∷ xs) ≡ 0
  none_more n x xs other = ap (λ b. cond b (1 + alike n xs) 0) other

  -- all of the group have the number
  pub group_alike : (n : ℕ) (xs : List X) → AllByRecursion (λ x. number x ≡ n) (take (alike n xs) xs)
  group_alike n [] = tt
  group_alike n (x ∷ xs) =
      let All : ℕ → Type 0 = λ k. AllByRecursion (λ y. number y ≡ n) (take k (x ∷ xs)) in
      ⊎_elim
      (λ same. subst All (sym (one_more n x xs same)) (eqb-true (number x) n same, group_alike n xs))
      (λ other. subst All (sym (none_more n x xs other)) tt)
      (cases_Bool (nat_eq (number x) n))

  -- and all after it a higher one
  pub above_group : (n : ℕ) (xs : List X) → AllByRecursion (λ x. n ≤ number x) xs → Climbs xs →
      AllByRecursion (λ x. n < number x) (drop (alike n xs) xs)
  above_group n [] from climbs = tt
  above_group n (x ∷ xs) from climbs =
      let All : ℕ → Type 0 = λ k. AllByRecursion (λ y. n < number y) (drop k (x ∷ xs)) in
      ⊎_elim
      (λ same. subst All (sym (one_more n x xs same)) (above_group n xs from.1 climbs.1))
      (λ other.
      let apart : number x ≢ n = λ e. true≢false (sym (eq-eqb (number x) n e) ∙ other) in
      let above : n < number x = omega (arith, apart, from.0) in
      subst All (sym (none_more n x xs other)) (
        above,
        AllByRecursion-map (λ y. number x ≤ number y) (λ y. n < number y) (λ y le. omega (arith, above, le)) xs
            climbs.0,
      ))
      (cases_Bool (nat_eq (number x) n))

  -- none is below the first, as a slice has it
  pub from_first : (n : ℕ) (d : X) (xs : List X) → 1 ≤ length xs → n ≡ number (get_or xs 0 d) → Climbs xs →
      AllByRecursion (λ y. n ≤ number y) xs
  from_first n d [] some first climbs = tt
  from_first n d (x ∷ xs) some first climbs = (
    omega (arith, first),
    AllByRecursion-map (λ y. number x ≤ number y) (λ y. n ≤ number y)
        (λ y le. omega (arith, first, le)) xs climbs.0,
  )
