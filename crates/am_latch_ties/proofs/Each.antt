-- What holds of each view, once one is set or added.
use Rattle.std.proofs.Common.{◌≡◌, ◌≢◌, ◌⊎◌, ℕ, zero, suc, List, [], ◌∷◌, ◌++◌, length, set}
use Rattle.std.proofs.Common.{inl, inr, refl, sym, ap, subst, ⊎_elim}
use mathlib.Core.Option.{some, some-ne-none, some-injective}
use lib.ListN.{get_elem?}
use Rattle.atomic_table.proofs.Lists.{at_set}

module _ {V : Type 0} where
  at_end : (l : List V) (a b : V) (j : ℕ) → get_elem? (l ++ a ∷ []) j ≡ some b → (get_elem? l j ≡ some b) ⊎
      ((j ≡ length l) × (a ≡ b))
  at_end [] a b zero e = inr (refl, some-injective a b e)
  at_end [] a b (suc j) e = absurd (some-ne-none b (sym e))
  at_end (x ∷ xs) a b zero e = inl e
  at_end (x ∷ xs) a b (suc j) e = ⊎_elim inl (λ t. inr (ap suc t.0, t.1)) (at_end xs a b j e)

  -- what holds of the other views and of the one that is set
  pub each_of_set : (P : ℕ → V → Type 0) (views : List V) (id : ℕ) (w : V) →
      ((j : ℕ) (u : V) → j ≢ id → get_elem? views j ≡ some u → P j u) → P id w → (j : ℕ) (u : V) →
      get_elem? (set views id w) j ≡ some u → P j u
  each_of_set P views id w others mine j u e =
      ⊎_elim
      (λ (t : (j ≡ id) × (w ≡ u)). subst (λ (y : ℕ × V). P y.0 y.1) (λ i. (sym t.0 i, t.1 i)) mine)
      (λ (t : (j ≢ id) × (get_elem? views j ≡ some u)). others j u t.0 t.1)
      (at_set views id j w u e)

  pub each_of_end : (P : ℕ → V → Type 0) (views : List V) (w : V) →
      ((j : ℕ) (u : V) → get_elem? views j ≡ some u → P j u) → P (length views) w → (j : ℕ) (u : V) →
      get_elem? (views ++ w ∷ []) j ≡ some u → P j u
  each_of_end P views w others mine j u e =
      ⊎_elim
      (λ (t : get_elem? views j ≡ some u). others j u t)
      (λ (t : (j ≡ length views) × (w ≡ u)). subst (λ (y : ℕ × V). P y.0 y.1) (λ i. (sym t.0 i, t.1 i)) mine)
      (at_end views w u j e)
