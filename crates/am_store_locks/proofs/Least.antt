-- The least number of a list.
use Rattle.std.proofs.Common.{◌≡◌, ◌⊎◌, ℕ, zero, suc, ◌≤◌, min, List, [], ◌∷◌, fold, Contains, MatchOption, refl, sym}
use Rattle.std.proofs.Common.{◌∙◌, inl, inr, ⊎_elim, arith}
use Rattle.std.specs.List.{reduce}
use Rattle.std.proofs.lemmas.Bool.{cases_lt}
use Rattle.std.proofs.lemmas.List.Elements.{All-nil, All-cons, All-head, All-tail}
use Rattle.am_store_locks.specs.Answers.{IsLeastOf}

either : (a b : ℕ) → (min a b ≡ a) ⊎ (min a b ≡ b)
either a b = ⊎_elim (λ h. inl (omega (arith, h))) (λ h. inr (omega (arith, h))) (cases_lt a b)

-- what stands in the list with the lesser of two in their place stands in the list
spread : (a b n : ℕ) (xs : List ℕ) → Contains (min a b ∷ xs) n → Contains (a ∷ b ∷ xs) n
spread a b n xs (zero, here, e) = ⊎_elim (λ h. (0, omega arith, sym h ∙ e)) (λ h. (1, omega arith, sym h ∙ e))
    (either a b)
spread a b n xs (suc k, here, e) = (suc (suc k), omega (arith, here), e)

fold_min-least : (a : ℕ) (xs : List ℕ) → IsLeastOf (a ∷ xs) (fold min a xs)
fold_min-least a [] = record {
  one_of_them = (0, omega arith, refl);
  least = All-cons (λ m. a ≤ m) a [] (omega arith) (All-nil _);
}
fold_min-least a (x ∷ xs) =
    let n = fold min (min a x) xs in
    let rest = fold_min-least (min a x) xs in
    let low : n ≤ min a x = All-head (λ m. n ≤ m) (min a x) xs rest.least in
    record {
      one_of_them = spread a x n xs rest.one_of_them;
      least = All-cons (λ m. n ≤ m) a (x ∷ xs) (omega (arith, low))
          (All-cons (λ m. n ≤ m) x xs (omega (arith, low)) (All-tail (λ m. n ≤ m) (min a x) xs rest.least));
    }

pub reduce_min-least : (xs : List ℕ) → MatchOption (reduce min xs) (xs ≡ []) (IsLeastOf xs)
reduce_min-least [] = refl
reduce_min-least (x ∷ xs) = fold_min-least x xs
