-- What filters keep.
use Rattle.std.proofs.Common.{◌≡◌, List, [], ◌∷◌, ◌++◌, Bool, true, false, cond, refl, sym, ap, ◌∙◌}
use Rattle.std.specs.Prelude.{filter}
use Rattle.std.specs.List.{AllByRecursion}

module _ {X : Type 0} where
  pub each_push : (P : X → Type 0) (xs : List X) (x : X) → AllByRecursion P xs → P x → AllByRecursion P (xs ++ x ∷ [])
  each_push P [] x all here = (here, tt)
  each_push P (y ∷ ys) x all here = (all.0, each_push P ys x all.1 here)

  pub each_weaker : (P Q : X → Type 0) → ((x : X) → P x → Q x) → (xs : List X) → AllByRecursion P xs →
      AllByRecursion Q xs
  each_weaker P Q f [] all = tt
  each_weaker P Q f (x ∷ xs) all = (f x all.0, each_weaker P Q f xs all.1)

  each_kept : (P : X → Type 0) (x : X) (xs : List X) (test : Bool) → P x → AllByRecursion P xs →
      AllByRecursion P (cond test (x ∷ xs) xs)
  each_kept P x xs true here all = (here, all)
  each_kept P x xs false here all = all

  pub each_filter : (P : X → Type 0) (p : X → Bool) (xs : List X) → AllByRecursion P xs → AllByRecursion P (filter p xs)
  each_filter P p [] all = tt
  each_filter P p (x ∷ xs) all = each_kept P x (filter p xs) (p x) all.0 (each_filter P p xs all.1)

  pub filter_keeps : (p : X → Bool) (xs : List X) → AllByRecursion (λ x. p x ≡ true) xs → filter p xs ≡ xs
  filter_keeps p [] all = refl
  filter_keeps p (x ∷ xs) all = ap (λ b. cond b (x ∷ filter p xs) (filter p xs)) all.0 ∙
      ap (λ ys. x ∷ ys) (filter_keeps p xs all.1)

  pub filter_drops : (p : X → Bool) (xs : List X) → AllByRecursion (λ x. p x ≡ false) xs → filter p xs ≡ []
  filter_drops p [] all = refl
  filter_drops p (x ∷ xs) all = ap (λ b. cond b (x ∷ filter p xs) (filter p xs)) all.0 ∙ filter_drops p xs all.1

  filter_cond : (p : X → Bool) (x : X) (xs : List X) (test : Bool) → filter p (cond test (x ∷ xs) xs) ≡ cond test
      (cond (p x) (x ∷ filter p xs) (filter p xs)) (filter p xs)
  filter_cond p x xs true = refl
  filter_cond p x xs false = refl

  cond_turns : (a b : Bool) (x : X) (xs : List X) → cond b (cond a (x ∷ xs) xs) xs ≡ cond a (cond b (x ∷ xs) xs) xs
  cond_turns true true x xs = refl
  cond_turns true false x xs = refl
  cond_turns false true x xs = refl
  cond_turns false false x xs = refl

  pub filters_turn : (p q : X → Bool) (xs : List X) → filter p (filter q xs) ≡ filter q (filter p xs)
  filters_turn p q [] = refl
  filters_turn p q (x ∷ xs) =
      filter_cond p x (filter q xs) (q x)
      ∙ ap (λ ys. cond (q x) (cond (p x) (x ∷ ys) ys) ys) (filters_turn p q xs)
      ∙ cond_turns (p x) (q x) x (filter q (filter p xs))
      ∙ sym (filter_cond q x (filter p xs) (p x))
