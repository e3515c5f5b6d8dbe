-- The first LF of some bytes.
use Rattle.std.proofs.Common.{None, Some, inl, inr, ltb, eqb, ◌≡◌, ℕ, List, [], ◌∷◌, ◌++◌, ap, sym, ◌∙◌, refl, cond}
use Rattle.std.proofs.Common.{not, true, false, length, take, drop, arith, suc, zero, ◌<◌, ◌≤◌, ◌-◌, ◌+◌, append_assoc}
use Rattle.std.specs.List.{position_or_len}
use Rattle.std.proofs.lemmas.Bool.{cases_Bool, cond_both, eqb-false, false≢true, true≢false, ltb-true, ltb-false}
use Rattle.std.proofs.lemmas.List.{drop-take}
use Rattle.am_line_source.specs.Lines.{HasNoLf, has_lf, line_of, lines_of, CutsLine}
use Rattle.am_line_source.proofs.CutLines.{lines_of-ended}

abbrev place_of_lf : List ℕ → ℕ
place_of_lf bytes = position_or_len (λ b. eqb b 10) bytes

pub no_lf : (bytes : List ℕ) → has_lf bytes ≡ false → HasNoLf bytes
no_lf [] none = tt
no_lf (c ∷ bytes) none = elim (cases_Bool (eqb c 10)) [
  | inl is ↦ absurd (true≢false (sym (ap (λ b. cond b true (has_lf bytes)) is) ∙ none))
  | inr isnt ↦ (eqb-false c 10 isnt, no_lf bytes (sym (ap (λ b. cond b true (has_lf bytes)) isnt) ∙ none))
]

none_before : (bytes : List ℕ) (k : ℕ) → k ≤ place_of_lf bytes → HasNoLf (take k bytes)
none_before bytes zero le = tt
none_before [] (suc k) le = tt
none_before (c ∷ bytes) (suc k) le = elim (cases_Bool (eqb c 10)) [
  | inl t ↦
      let here : place_of_lf (c ∷ bytes) ≡ 0 = ap (λ b. cond (not b) (1 + place_of_lf bytes) 0) t in
      absurd (omega (arith, le, here))
  | inr f ↦
      let later : place_of_lf (c ∷ bytes) ≡ 1 + place_of_lf bytes = ap (λ b. cond (not b) (1 + place_of_lf bytes) 0)
      f in
      ((λ e. false≢true (sym f ∙ ap (λ z. eqb z 10) e)), none_before bytes k (omega (arith, le, later)))
]

lf_there : (bytes : List ℕ) → place_of_lf bytes < length bytes → has_lf bytes ≡ true
lf_there [] lt = absurd (omega (arith, lt))
lf_there (c ∷ bytes) lt = elim (cases_Bool (eqb c 10)) [
  | inl t ↦ ap (λ b. cond b true (has_lf bytes)) t
  | inr f ↦
      let later : place_of_lf (c ∷ bytes) ≡ 1 + place_of_lf bytes = ap (λ b. cond (not b) (1 + place_of_lf bytes) 0)
      f in
      ap (λ b. cond b true (has_lf bytes)) f ∙ lf_there bytes (omega (arith, lt, later))
]

lf_not_there : (bytes : List ℕ) → length bytes ≤ place_of_lf bytes → has_lf bytes ≡ false
lf_not_there [] le = refl
lf_not_there (c ∷ bytes) le = elim (cases_Bool (eqb c 10)) [
  | inl t ↦
      let here : place_of_lf (c ∷ bytes) ≡ 0 = ap (λ b. cond (not b) (1 + place_of_lf bytes) 0) t in
      absurd (omega (arith, le, here))
  | inr f ↦
      let later : place_of_lf (c ∷ bytes) ≡ 1 + place_of_lf bytes = ap (λ b. cond (not b) (1 + place_of_lf bytes) 0)
      f in
      ap (λ b. cond b true (has_lf bytes)) f ∙ lf_not_there bytes (omega (arith, le, later))
]

pub before_lf : (bytes : List ℕ) (k : ℕ) → cond (ltb (place_of_lf bytes) (length bytes)) (Some (place_of_lf bytes))
    None ≡ Some k → HasNoLf (take k bytes) × (has_lf bytes ≡ true)
before_lf bytes k =
    let place = place_of_lf bytes in
    cond_both (ltb place (length bytes)) (Some place) None (λ o. o ≡ Some k → HasNoLf (take k bytes) ×
    (has_lf bytes ≡ true))
    (λ inside found.
    let same : place ≡ k = cc in
    (none_before bytes k (omega (arith, same)), lf_there bytes (ltb-true place (length bytes) inside)))
    (λ _ found. cc)

pub without_lf : (bytes : List ℕ) → cond (ltb (place_of_lf bytes) (length bytes)) (Some (place_of_lf bytes)) None ≡
    None → has_lf bytes ≡ false
without_lf bytes =
    let place = place_of_lf bytes in
    cond_both (ltb place (length bytes)) (Some place) None (λ o. o ≡ None → has_lf bytes ≡ false)
    (λ inside found. cc)
    (λ past found. lf_not_there bytes (ltb-false place (length bytes) past))

-- what stands between two places of some bytes
pub between : (bytes : List ℕ) (start end : ℕ) → start ≤ end → take (end - start) (drop start bytes) ≡ drop start
    (take end bytes)
between bytes start end le =
    let e : start + (end - start) ≡ end = omega (arith, le) in
    sym (drop-take start (end - start) bytes) ∙ ap (λ n. drop start (take n bytes)) e

-- a line and its LF, cut from the front of some bytes
pub cuts_line : (bytes line rest : List ℕ) → HasNoLf line → bytes ≡ line ++ 10 ∷ rest →
    CutsLine bytes (line_of line) rest
cuts_line bytes line rest none is = (
  line ++ 10 ∷ [],
  is ∙ sym (append_assoc line (10 ∷ []) rest),
  λ more. ap lines_of (append_assoc line (10 ∷ []) more) ∙ lines_of-ended line more none,
)
