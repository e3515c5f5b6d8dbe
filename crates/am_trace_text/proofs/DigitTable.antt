-- A table of the numbers of digits, looked at byte by byte.
use Rattle.std.proofs.Common.{◌≡◌, ℕ, zero, suc, ◌<◌, ◌≤◌, Bool, true, false, ltb, cond, List, Option, Some, None}
use Rattle.std.proofs.Common.{◌∷◌, ◌++◌, replicate, refl, sym, ap, ◌∙◌, subst, arith, inl, inr}
use Rattle.std.specs.Prelude.{◌==◌, ◌&&◌, slice_index_or}
use Rattle.std.proofs.lemmas.Bool.{and_parts, cases_eq, cond-true, cond-false, eqb-true, false≢true, lt-ltb}
use Rattle.std.proofs.lemmas.Bool.Decides.{nat_tests}
use Rattle.am_trace_text.specs.FieldReadings.{digit_in}

abbrev pub same : Option ℕ → Option ℕ → Bool
same None None = true
same None (Some b) = false
same (Some a) None = false
same (Some a) (Some b) = a == b

same_is : (o p : Option ℕ) → same o p ≡ true → o ≡ p
same_is None None e = refl
same_is None (Some b) e = absurd (false≢true e)
same_is (Some a) None e = absurd (false≢true e)
same_is (Some a) (Some b) e = ap Some (eqb-true a b e)

-- the test of all numbers below n
abbrev pub below : ℕ → (ℕ → Bool) → Bool
below zero test = true
below (suc n) test = test n && below n test

below_at : (n k : ℕ) (test : ℕ → Bool) → below n test ≡ true → k < n → test k ≡ true
below_at zero k test e h = absurd (omega arith)
below_at (suc n) k test e h =
    let parts = and_parts (test n) (below n test) e in
    elim (cases_eq k n) [
      | inl here ↦ subst (λ j. test j ≡ true) (sym here) parts.0
      | inr other ↦ below_at n k test parts.1 (omega arith)
    ]

abbrev pub told : ℕ → Option ℕ
told n = cond (ltb n 16) (Some n) None

-- the table of the digits of base 16
abbrev pub digit_numbers : List ℕ
digit_numbers = replicate 48 16 ++ 0 ∷ 1 ∷ 2 ∷ 3 ∷ 4 ∷ 5 ∷ 6 ∷ 7 ∷ 8 ∷ 9 ∷ replicate 39 16 ++
    10 ∷ 11 ∷ 12 ∷ 13 ∷ 14 ∷ 15 ∷ replicate 153 16

-- each byte of the table is the number of its digit, and 16 or more where it is none
abbrev pub IsTable : List ℕ → ℕ → Type 0
IsTable table d = below 256 (λ c. same (told (slice_index_or table c d)) (digit_in c)) ≡ true

module _ (table : List ℕ) (d c : ℕ) (right : IsTable table d) (byte : c < 256) where
  at : told (slice_index_or table c d) ≡ digit_in c
  at = same_is _ _ (below_at 256 c (λ c. same (told (slice_index_or table c d)) (digit_in c)) right byte)

  pub some_digit : slice_index_or table c d < 16 → Some (slice_index_or table c d) ≡ digit_in c
  some_digit h = sym (cond-true (ltb (slice_index_or table c d) 16) (Some (slice_index_or table c d)) None
      (lt-ltb (slice_index_or table c d) 16 h)) ∙ at

  pub no_digit : 16 ≤ slice_index_or table c d → None ≡ digit_in c
  no_digit h = sym (cond-false (ltb (slice_index_or table c d) 16) (Some (slice_index_or table c d)) None
      (grind (arith, nat_tests, h))) ∙ at
