-- How many of the first elements of a list pass a test.
use Rattle.std.proofs.Common.{◌≡◌, ℕ, zero, suc, ◌+◌, ◌<◌, ◌≤◌, List, [], ◌∷◌, ◌++◌, length, take, drop, Bool, true}
use Rattle.std.proofs.Common.{false}
use Rattle.std.proofs.Common.{cond, refl, sym, ap, ◌∙◌, ⊎_elim, arith}
use Rattle.std.specs.Prelude.{take_while}
use Rattle.std.proofs.lemmas.Bool.{cases_Bool, cond-true, cond-false, false≢true}
use Rattle.std.proofs.lemmas.List.Sums.{take_while-cons}

-- ---- a list cut at its place n

module _ {X : Type 0} (x : X) (rest : List X) where
  pub take-next : (n : ℕ) (xs : List X) → drop n xs ≡ x ∷ rest → take (suc n) xs ≡ take n xs ++ x ∷ []
  take-next zero [] h = absurd (cc)
  take-next (suc n) [] h = absurd (cc)
  take-next zero (y ∷ xs) h = let same : y ≡ x = cc in ap (λ z. z ∷ []) same
  take-next (suc n) (y ∷ xs) h = ap (λ l. y ∷ l) (take-next n xs h)

  pub drop-next : (n : ℕ) (xs : List X) → drop n xs ≡ x ∷ rest → drop (suc n) xs ≡ rest
  drop-next zero [] h = absurd (cc)
  drop-next (suc n) [] h = absurd (cc)
  drop-next zero (y ∷ xs) h = cc
  drop-next (suc n) (y ∷ xs) h = drop-next n xs h

module _ {X : Type 0} (test : X → Bool) where
  abbrev pub first_passes : List X → Bool
  first_passes [] = false
  first_passes (x ∷ xs) = test x

  -- ---- how many of the first pass, up to a limit

  abbrev pub passing : ℕ → List X → ℕ
  passing limit xs = length (take_while test (take limit xs))

  counted : (b : Bool) (x : X) (xs : List X) → length (cond b (x ∷ xs) []) ≡ cond b (suc (length xs)) 0
  counted true x xs = refl
  counted false x xs = refl

  passing-cons : (limit : ℕ) (x : X) (xs : List X) → passing (suc limit) (x ∷ xs) ≡ cond (test x)
      (suc (passing limit xs)) 0
  passing-cons limit x xs = ap length (take_while-cons test x (take limit xs)) ∙
      counted (test x) x (take_while test (take limit xs))

  passing-pass : (limit : ℕ) (x : X) (xs : List X) → test x ≡ true →
      passing (suc limit) (x ∷ xs) ≡ suc (passing limit xs)
  passing-pass limit x xs h = passing-cons limit x xs ∙ cond-true (test x) (suc (passing limit xs)) 0 h

  passing-fail : (limit : ℕ) (x : X) (xs : List X) → test x ≡ false → passing (suc limit) (x ∷ xs) ≡ 0
  passing-fail limit x xs h = passing-cons limit x xs ∙ cond-false (test x) (suc (passing limit xs)) 0 h

  -- below the limit the next one passes too
  pub one_more : (n limit : ℕ) (xs : List X) → n < limit → n ≤ passing limit xs → first_passes (drop n xs) ≡ true →
      suc n ≤ passing limit xs
  one_more n zero xs lt h p = absurd (omega arith)
  one_more zero (suc limit) [] lt h p = absurd (false≢true p)
  one_more (suc n) (suc limit) [] lt h p = absurd (false≢true p)
  one_more zero (suc limit) (x ∷ xs) lt h p = omega (arith, passing-pass limit x xs p)
  one_more (suc n) (suc limit) (x ∷ xs) lt h p = ⊎_elim
      (λ passes. let is = passing-pass limit x xs passes in
      let on = one_more n limit xs (omega arith) (omega (arith, is, h)) p in omega (arith, is, on))
      (λ fails. absurd (omega (arith, passing-fail limit x xs fails, h)))
      (cases_Bool (test x))

  -- there is no more, where the next one fails
  pub no_more : (n limit : ℕ) (xs : List X) → n ≤ passing limit xs → first_passes (drop n xs) ≡ false →
      n ≡ passing limit xs
  no_more zero zero [] h p = refl
  no_more zero (suc limit) [] h p = refl
  no_more (suc n) zero [] h p = absurd (none h)
    where
      none : suc n ≤ 0 → ⊥
      none e = omega arith
  no_more (suc n) (suc limit) [] h p = absurd (none h)
    where
      none : suc n ≤ 0 → ⊥
      none e = omega arith
  no_more zero zero (x ∷ xs) h p = refl
  no_more (suc n) zero (x ∷ xs) h p = absurd (none h)
    where
      none : suc n ≤ 0 → ⊥
      none e = omega arith
  no_more zero (suc limit) (x ∷ xs) h p = sym (passing-fail limit x xs p)
  no_more (suc n) (suc limit) (x ∷ xs) h p = ⊎_elim
      (λ passes. let is = passing-pass limit x xs passes in ap suc (no_more n limit xs (omega (arith, is, h)) p) ∙
      sym is)
      (λ fails. absurd (omega (arith, passing-fail limit x xs fails, h)))
      (cases_Bool (test x))

  pub within_limit : (limit : ℕ) (xs : List X) → passing limit xs ≤ limit
  within_limit zero [] = omega arith
  within_limit zero (x ∷ xs) = omega arith
  within_limit (suc limit) [] = least
    where
      least : 0 ≤ suc limit
      least = omega arith
  within_limit (suc limit) (x ∷ xs) = ⊎_elim
      (λ passes. omega (arith, passing-pass limit x xs passes, within_limit limit xs))
      (λ fails. omega (arith, passing-fail limit x xs fails))
      (cases_Bool (test x))

  -- beyond the first n they are counted on
  pub passing_on : (n left limit : ℕ) (xs : List X) → limit ≡ n + left → n ≤ passing limit xs →
      passing limit xs ≡ n + passing left (drop n xs)
  passing_on zero left limit xs all h =
      let same : limit ≡ left = omega (arith, all) in
      let one : passing limit xs ≡ passing left (drop 0 xs) = ap (λ k. passing k xs) same in omega (arith, one)
  passing_on (suc n) left zero xs all h = absurd (omega (arith, all))
  passing_on (suc n) left (suc limit) [] all h = absurd (none h)
    where
      none : suc n ≤ 0 → ⊥
      none e = omega arith
  passing_on (suc n) left (suc limit) (x ∷ xs) all h = ⊎_elim
      (λ passes. let is = passing-pass limit x xs passes in
      let on = passing_on n left limit xs (omega (arith, all)) (omega (arith, is, h)) in omega (arith, is, on))
      (λ fails. absurd (omega (arith, passing-fail limit x xs fails, h)))
      (cases_Bool (test x))
