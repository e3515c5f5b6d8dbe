-- What is missing of a text is what is missing of one of its pieces.
use Rattle.std.proofs.Common.{◌≡◌, ◌≢◌, ℕ, List, [], ◌∷◌, ◌++◌, refl, sym, ap, subst, ◌∙◌, append_assoc}
use Rattle.am_resp_text.specs.Gaps.{IsGap}
use Rattle.am_resp_text.specs.declared.fault.Gap.{Gap}
use Rattle.am_resp_text.specs.declared.fault.Gap.TheVariants.{Incomplete, Bad}

still_more : (xs ys : List ℕ) → xs ≢ [] → xs ++ ys ≢ []
still_more [] ys p e = p refl
still_more (x ∷ xs) ys p e = cc

pub nothing_more : (xs ys : List ℕ) → xs ++ ys ≡ [] → ys ≡ []
nothing_more [] ys e = e
nothing_more (x ∷ xs) ys e = absurd (cc)

-- Behind a front, texts of the one kind make such of the other, which are cut there.
pub gap_behind : (IsAll IsRest : List ℕ → Type 0) (bytes front rest : List ℕ) (gap : Gap) → bytes ≡ front ++ rest →
    ((text : List ℕ) → IsRest text → IsAll (front ++ text)) →
    ((more text x : List ℕ) → IsAll text → front ++ more ≡ text ++ x → (behind : List ℕ) × IsRest behind ×
    (more ≡ behind ++ x)) → IsGap IsRest rest gap → IsGap IsAll bytes gap
gap_behind IsAll IsRest bytes front rest Incomplete e join cut missing =
    let whole = ap (λ (z : List ℕ). z ++ missing.0) e ∙ append_assoc front rest missing.0 in
    (missing.0, missing.1, subst IsAll (sym whole) (join (rest ++ missing.0) missing.2))
gap_behind IsAll IsRest bytes front rest Bad e join cut none = λ more text x is h.
    let whole = ap (λ (z : List ℕ). z ++ more) e ∙ append_assoc front rest more in
    let behind = cut (rest ++ more) text x is (sym whole ∙ h) in
    none more behind.0 x behind.1 behind.2

-- Texts of the one kind begin with such of the other, which can each be completed.
pub gap_at_front : (IsAll IsFront : List ℕ → Type 0) (bytes : List ℕ) (gap : Gap) →
    ((text : List ℕ) → IsFront text → (rest : List ℕ) × IsAll (text ++ rest)) →
    ((text : List ℕ) → IsAll text → (front rest : List ℕ) × IsFront front × (text ≡ front ++ rest)) →
    IsGap IsFront bytes gap → IsGap IsAll bytes gap
gap_at_front IsAll IsFront bytes Incomplete complete cut missing =
    let rest = complete (bytes ++ missing.0) missing.2 in (
      missing.0 ++ rest.0,
      still_more missing.0 rest.0 missing.1,
      subst IsAll (append_assoc bytes missing.0 rest.0)
          rest.1,
    )
gap_at_front IsAll IsFront bytes Bad complete cut none = λ more text x is h.
    let pieces = cut text is in
    none more pieces.0 (pieces.1 ++ x) pieces.2
    (h ∙ ap (λ (z : List ℕ). z ++ x) pieces.3 ∙ append_assoc pieces.0 pieces.1 x)
