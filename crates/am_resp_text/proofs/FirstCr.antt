-- The first CR of some bytes.
use Rattle.std.proofs.Common.{◌≡◌, ℕ, ◌+◌, ◌≤◌, ◌<◌, suc, zero, not, eqb, ltb, cond, inl, inr}
use Rattle.std.proofs.Common.{List, [], ◌∷◌, length, take, drop, Some, None, sym, ap, ◌∙◌, arith}
use Rattle.std.specs.List.{position_or_len}
use Rattle.std.proofs.lemmas.Bool.{cases_Bool, cond_both, eqb-false, eqb-true, false≢true, ltb-true, ltb-false}
use Rattle.am_resp_text.specs.Counts.{HasNoCr}

abbrev place_of_cr : List ℕ → ℕ
place_of_cr bytes = position_or_len (λ b. eqb b 13) bytes

none_before : (bytes : List ℕ) (k : ℕ) → k ≤ place_of_cr bytes → HasNoCr (take k bytes)
none_before bytes zero le = tt
none_before [] (suc k) le = tt
none_before (c ∷ bytes) (suc k) le = elim (cases_Bool (eqb c 13)) [
  | inl t ↦
      let here : place_of_cr (c ∷ bytes) ≡ 0 = ap (λ b. cond (not b) (1 + place_of_cr bytes) 0) t in
      absurd (omega (arith, le, here))
  | inr f ↦
      let later : place_of_cr (c ∷ bytes) ≡ 1 + place_of_cr bytes = ap (λ b. cond (not b) (1 + place_of_cr bytes) 0)
      f in
      ((λ e. false≢true (sym f ∙ ap (λ z. eqb z 13) e)), none_before bytes k (omega (arith, le, later)))
]

cr_there : (bytes : List ℕ) → place_of_cr bytes < length bytes → (rest : List ℕ) × (drop (place_of_cr bytes) bytes ≡
    13 ∷ rest)
cr_there [] lt = absurd (omega (arith, lt))
cr_there (c ∷ bytes) lt = elim (cases_Bool (eqb c 13)) [
  | inl t ↦
      let here : place_of_cr (c ∷ bytes) ≡ 0 = ap (λ b. cond (not b) (1 + place_of_cr bytes) 0) t in
      (bytes, ap (λ n. drop n (c ∷ bytes)) here ∙ ap (λ z. z ∷ bytes) (eqb-true c 13 t))
  | inr f ↦
      let later : place_of_cr (c ∷ bytes) ≡ 1 + place_of_cr bytes = ap (λ b. cond (not b) (1 + place_of_cr bytes) 0)
      f in
      let rest = cr_there bytes (omega (arith, lt, later)) in
      let more : 1 + place_of_cr bytes ≡ suc (place_of_cr bytes) = omega arith in
      (rest.0, ap (λ n. drop n (c ∷ bytes)) (later ∙ more) ∙ rest.1)
]

no_cr : (bytes : List ℕ) → length bytes ≤ place_of_cr bytes → HasNoCr bytes
no_cr [] le = tt
no_cr (c ∷ bytes) le = elim (cases_Bool (eqb c 13)) [
  | inl t ↦
      let here : place_of_cr (c ∷ bytes) ≡ 0 = ap (λ b. cond (not b) (1 + place_of_cr bytes) 0) t in
      absurd (omega (arith, le, here))
  | inr f ↦
      let later : place_of_cr (c ∷ bytes) ≡ 1 + place_of_cr bytes = ap (λ b. cond (not b) (1 + place_of_cr bytes) 0)
      f in
      (eqb-false c 13 f, no_cr bytes (omega (arith, le, later)))
]

-- before the first CR, and from it on
pub around_cr : (bytes : List ℕ) (k : ℕ) → cond (ltb (place_of_cr bytes) (length bytes)) (Some (place_of_cr bytes))
    None ≡ Some k → HasNoCr (take k bytes) × ((rest : List ℕ) × (drop k bytes ≡ 13 ∷ rest)) × (k ≤ length bytes)
around_cr bytes k =
    let place = place_of_cr bytes in
    cond_both (ltb place (length bytes)) (Some place) None (λ o. o ≡ Some k → HasNoCr (take k bytes) ×
    ((rest : List ℕ) × (drop k bytes ≡ 13 ∷ rest)) × (k ≤ length bytes))
    (λ inside found.
    let same : place ≡ k = cc in
    let lt = ltb-true place (length bytes) inside in
    let there = cr_there bytes lt in (
      none_before bytes k (omega (arith, same)),
      (there.0, ap (λ n. drop n bytes) (sym same) ∙ there.1),
      omega (arith, same, lt),
    ))
    (λ _ found. cc)

pub without_cr : (bytes : List ℕ) → cond (ltb (place_of_cr bytes) (length bytes)) (Some (place_of_cr bytes)) None ≡
    None → HasNoCr bytes
without_cr bytes =
    let place = place_of_cr bytes in
    cond_both (ltb place (length bytes)) (Some place) None (λ o. o ≡ None → HasNoCr bytes)
    (λ inside found. cc)
    (λ past found. no_cr bytes (ltb-false place (length bytes) past))
