-- The parts, one after another, are the text.
use Rattle.std.proofs.Common.{◌≡◌, ℕ, zero, suc, ◌+◌, ◌-◌, ◌*◌, ◌/◌, ◌%◌, ◌<◌, ◌≤◌, List, [], ◌∷◌, ◌++◌, length, take}
use Rattle.std.proofs.Common.{drop}
use Rattle.std.proofs.Common.{arith, sym, ap, ◌∙◌}
use Rattle.std.proofs.lemmas.List.{take_all, length-take}
use Rattle.std.proofs.lemmas.Nat.{div-add-mod'}
use Rattle.am_replica_pieces.specs.Cut.{before_head, bytes_at, first_parts}

take_sum : (a b : ℕ) (xs : List ℕ) → take (a + b) xs ≡ take a xs ++ take b (drop a xs)
take_sum zero b xs =
    let none : 0 + b ≡ b = omega arith in
    ap (λ k. take k xs) none
take_sum (suc a) b [] = take_all (suc a + b) [] (omega arith) ∙ sym (take_all b [] (omega arith))
take_sum (suc a) b (x ∷ xs) =
    let more : suc a + b ≡ suc (a + b) = omega arith in
    ap (λ k. take k (x ∷ xs)) more ∙ ap (λ ys. x ∷ ys) (take_sum a b xs)

pub first_are : (most : ℕ) (text : List ℕ) (n : ℕ) → first_parts most text n ≡ take (n * most) text
first_are most text zero =
    let none : 0 ≡ 0 * most = omega arith in
    ap (λ k. take k text) none
first_are most text (suc n) =
    let more : n * most + most ≡ suc n * most = omega arith in
    ap (λ xs. xs ++ bytes_at most text n) (first_are most text n)
    ∙ sym (take_sum (n * most) most text)
    ∙ ap (λ k. take k text) more

pub whole : (most : ℕ) (text : List ℕ) → 0 < most → first_parts most text (before_head most text + 1) ≡ text
whole most text some =
    let n = length text - 1 in
    let split : n / most * most + n % most ≡ n = div-add-mod' n most in
    let small : n % most < most = omega arith in
    let more : n / most * most + most ≡ suc (n / most) * most = omega arith in
    let next : n / most + 1 ≡ suc (n / most) = omega arith in
    ap (λ k. first_parts most text k) next
    ∙ first_are most text (suc (before_head most text))
    ∙ take_all (suc (n / most) * most) text (omega arith)

pub few : (most : ℕ) (text : List ℕ) (number : ℕ) → length (bytes_at most text number) ≤ most
few most text number = omega (arith, length-take most (drop (number * most) text))
