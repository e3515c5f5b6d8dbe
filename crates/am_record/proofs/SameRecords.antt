-- Records that `==` finds the same: what it asks of the padded bytes says the same of the bytes alone.
use Rattle.std.proofs.Common.{◌≡◌, List, [], ◌∷◌, ◌++◌, ◌-◌, ℕ, Bool, true, refl, sym, ap, ◌∙◌, subst, length}
use Rattle.std.specs.Prelude.{◌&&◌, nat_eq, take, replicate}
use Rattle.std.specs.Cmp.Lexicographic.{pointwise, same_text}
use Rattle.std.proofs.lemmas.Bool.{and_parts, and_from, eqb-true, eq-eqb}
use Rattle.std.proofs.lemmas.Cmp.{nat_list_eq_equiv}
use Rattle.std.proofs.Math.Seq.{take-append_seam}
use Rattle.am_record.proofs.Outcomes.{same_test}

pub pointwise_alike : {A : Type 0} (E F : A → A → Bool) → ((x y : A) → E x y ≡ F x y) → (xs ys : List A) →
    pointwise E xs ys ≡ pointwise F xs ys
pointwise_alike E F h [] [] = refl
pointwise_alike E F h [] (y ∷ ys) = refl
pointwise_alike E F h (x ∷ xs) [] = refl
pointwise_alike E F h (x ∷ xs) (y ∷ ys) = ap (λ b. b && pointwise E xs ys) (h x y) ∙
    ap (λ b. F x y && b) (pointwise_alike E F h xs ys)

pub same_bytes : (xs ys : List ℕ) → (pointwise nat_eq (xs ++ replicate (64 - length xs) 0)
    (ys ++ replicate (64 - length ys) 0) && nat_eq (length xs) (length ys)) ≡ pointwise nat_eq xs ys
same_bytes xs ys =
    let zeros : List ℕ → List ℕ = λ zs. replicate (64 - length zs) 0 in
    same_test _ _
    (λ h.
    let parts = and_parts (pointwise nat_eq (xs ++ zeros xs) (ys ++ zeros ys)) (nat_eq (length xs) (length ys)) h in
    let long : length xs ≡ length ys = eqb-true (length xs) (length ys) parts.1 in
    let same : xs ≡ ys =
    sym (take-append_seam xs (zeros xs))
    ∙ ap (take (length xs)) (same_text (xs ++ zeros xs) (ys ++ zeros ys) (sym parts.0))
    ∙ ap (λ n. take n (ys ++ zeros ys)) long
    ∙ take-append_seam ys (zeros ys) in
    subst (λ zs. pointwise nat_eq xs zs ≡ true) same (nat_list_eq_equiv.refl xs))
    (λ h.
    subst (λ zs. (pointwise nat_eq (xs ++ zeros xs) (zs ++ zeros zs) && nat_eq (length xs) (length zs)) ≡ true)
    (same_text xs ys (sym h))
    (and_from (pointwise nat_eq (xs ++ zeros xs) (xs ++ zeros xs)) (nat_eq (length xs) (length xs))
    (nat_list_eq_equiv.refl (xs ++ zeros xs)) (eq-eqb (length xs) (length xs) refl)))
