-- Rows taken from the front of a list, one at a time.
use Rattle.std.proofs.Common.{◌≡◌, ℕ, zero, suc, ◌+◌, ◌≤◌, ◌++◌, List, [], ◌∷◌, length, take, drop, Option, Some, None}
use Rattle.std.proofs.Common.{refl, sym, ap, ◌∙◌, arith, length-append}
use Rattle.std.proofs.lemmas.List.{append-nil}
use Rattle.std.proofs.lemmas.Option.{none-some, same_Some}
use Rattle.std.specs.List.{slice_get}

module _ {X : Type 0} where
  take_front : (xs ys : List X) → take (length xs) (xs ++ ys) ≡ xs
  take_front [] ys = refl
  take_front (x ∷ xs) ys = ap (λ l. x ∷ l) (take_front xs ys)

  take_all : (n : ℕ) (xs : List X) → length xs ≤ n → take n xs ≡ xs
  take_all zero [] h = refl
  take_all zero (x ∷ xs) h = absurd (omega (arith, h))
  take_all (suc n) [] h = refl
  take_all (suc n) (x ∷ xs) h = ap (λ l. x ∷ l) (take_all n xs (omega (arith, h)))

  append_one : (xs : List X) (y : X) (ys : List X) → (xs ++ y ∷ []) ++ ys ≡ xs ++ y ∷ ys
  append_one [] y ys = refl
  append_one (x ∷ xs) y ys = ap (λ l. x ∷ l) (append_one xs y ys)

  first_of : (left : List X) (x : X) → slice_get left 0 ≡ Some x → left ≡ x ∷ drop 1 left
  first_of [] x h = absurd (none-some x h)
  first_of (y ∷ ys) x h = ap (λ z. z ∷ ys) (same_Some _ _ h)

  none_of : (left : List X) → slice_get left 0 ≡ None → left ≡ []
  none_of [] h = refl
  none_of (y ∷ ys) h = absurd (none-some y (sym h))

  -- the first n of all of them were taken
  pub record AreTaken (all taken left : List X) (n : ℕ) : Type 0 where
    pub together : all ≡ taken ++ left
    pub count : length taken ≡ n

  pub none_taken : (all taken : List X) → taken ≡ [] → AreTaken all taken all 0
  none_taken all taken none = record { together = ap (λ l. l ++ all) (sym none); count = ap length none }

  module _ {all taken left : List X} {n : ℕ} (so_far : AreTaken all taken left n) where
    pub one_more : {o : Option X} {x : X} {taken' left' : List X} (n' : ℕ) → o ≡ slice_get left 0 → o ≡ Some x →
        left' ≡ drop 1 left → taken' ≡ taken ++ x ∷ [] → n' ≡ n + 1 → AreTaken all taken' left' n'
    one_more {x = x} {taken' = taken'} {left' = left'} n' first is rest pushed next = record {
      together =
          so_far.together
          ∙ ap (λ l. taken ++ l) (first_of left x (sym first ∙ is) ∙ ap (λ l. x ∷ l) (sym rest))
          ∙ sym (append_one taken x left')
          ∙ ap (λ l. l ++ left') (sym pushed);
      count = let long = ap length pushed ∙ length-append taken (x ∷ []) in let had = so_far.count in
          omega (arith, long, had, next);
    }

    pub enough : (max : ℕ) → max ≡ n → taken ≡ take max all
    enough max is = sym (ap (take max) so_far.together ∙ ap (λ k. take k (taken ++ left)) (is ∙ sym so_far.count) ∙
        take_front taken left)

    pub no_more : {o : Option X} (max : ℕ) → n ≤ max → o ≡ slice_get left 0 → o ≡ None → taken ≡ take max all
    no_more max low first is =
        sym (ap (take max) (so_far.together ∙ ap (λ l. taken ++ l) (none_of left (sym first ∙ is)) ∙ append-nil taken)
        ∙ take_all max taken (let had = so_far.count in omega (arith, had, low)))

    -- the rest at once
    pub all_at_once : {taken' : List X} (max : ℕ) → taken' ≡ take max (taken ++ left) → taken' ≡ take max all
    all_at_once max is = is ∙ ap (take max) (sym so_far.together)

  pub no_length : (xs : List X) → length xs ≡ 0 → xs ≡ []
  no_length [] h = refl
  no_length (x ∷ xs) h = absurd (omega arith)
