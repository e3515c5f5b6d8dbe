-- A list with a new value, cut in two.
use Rattle.std.proofs.Common.{◌≡◌, ℕ, zero, suc, ◌+◌, ◌-◌, ◌<◌, ◌≤◌, List, [], ◌∷◌, length, Bool, true, false}
use Rattle.std.proofs.Common.{if◌then◌else◌, ltb, take, drop, refl, sym, ap, ◌∙◌, subst, arith}
use Rattle.std.proofs.lemmas.Bool.{lt-ltb, le-ltb, ltb-true}
use Rattle.std.specs.List.{insert}
use Rattle.am_index_btree.specs.Splits.{lower_size}

module _ {X : Type 0} where
  pub take_below : (xs : List X) (i m : ℕ) (x : X) → i ≤ m → i ≤ length xs → take (suc m) (insert xs i x) ≡ insert
      (take m xs) i x
  take_below xs zero m x le lt = refl
  take_below [] (suc i) m x le lt = absurd (omega arith)
  take_below (y ∷ xs) (suc i) zero x le lt = absurd (omega arith)
  take_below (y ∷ xs) (suc i) (suc m) x le lt = ap (λ l. y ∷ l) (take_below xs i m x (omega arith) (omega arith))

  pub drop_below : (xs : List X) (i m : ℕ) (x : X) → i ≤ m → i ≤ length xs → drop (suc m) (insert xs i x) ≡ drop m xs
  drop_below xs zero m x le lt = refl
  drop_below [] (suc i) m x le lt = absurd (omega arith)
  drop_below (y ∷ xs) (suc i) zero x le lt = absurd (omega arith)
  drop_below (y ∷ xs) (suc i) (suc m) x le lt = drop_below xs i m x (omega arith) (omega arith)

  pub take_above : (xs : List X) (i m : ℕ) (x : X) → m ≤ i → i ≤ length xs → take m (insert xs i x) ≡ take m xs
  take_above xs i zero x le lt = refl
  take_above xs zero (suc m) x le lt = absurd (omega arith)
  take_above [] (suc i) (suc m) x le lt = absurd (omega arith)
  take_above (y ∷ xs) (suc i) (suc m) x le lt = ap (λ l. y ∷ l) (take_above xs i m x (omega arith) (omega arith))

  pub drop_above : (xs : List X) (i m j : ℕ) (x : X) → i ≡ m + j → i ≤ length xs →
      drop m (insert xs i x) ≡ insert (drop m xs) j x
  drop_above xs i zero j x e lt = ap (λ k. insert xs k x) {x = i} {y = j} (omega arith)
  drop_above xs zero (suc m) j x e lt = absurd (omega arith)
  drop_above [] (suc i) (suc m) j x e lt = absurd (omega arith)
  drop_above (y ∷ xs) (suc i) (suc m) j x e lt = drop_above xs i m j x (omega arith) (omega arith)

-- the new value stays below
pub size_below : (keep at : ℕ) → at < keep → lower_size keep at ≡ suc keep
size_below keep at h = rw (lt-ltb at keep h) (omega arith)

pub size_above : (keep at : ℕ) → keep ≤ at → lower_size keep at ≡ keep
size_above keep at h = rw (le-ltb at keep h) refl

module _ {X : Type 0} (xs : List X) (i m : ℕ) (x : X) where
  pub take_lower : i < m → i ≤ length xs → take (lower_size m i) (insert xs i x) ≡ insert (take m xs) i x
  take_lower lt le = ap (λ k. take k (insert xs i x)) (size_below m i lt) ∙ take_below xs i m x (omega arith) le

  pub drop_lower : i < m → i ≤ length xs → drop (lower_size m i) (insert xs i x) ≡ drop m xs
  drop_lower lt le = ap (λ k. drop k (insert xs i x)) (size_below m i lt) ∙ drop_below xs i m x (omega arith) le

  pub take_upper : m ≤ i → i ≤ length xs → take (lower_size m i) (insert xs i x) ≡ take m xs
  take_upper ge le = ap (λ k. take k (insert xs i x)) (size_above m i ge) ∙ take_above xs i m x ge le

  pub drop_upper : m ≤ i → i ≤ length xs → drop (lower_size m i) (insert xs i x) ≡ insert (drop m xs) (i - m) x
  drop_upper ge le = ap (λ k. drop k (insert xs i x)) (size_above m i ge) ∙ drop_above xs i m (i - m) x (omega arith) le

size_by : (b : Bool) (keep at : ℕ) → ltb at keep ≡ b → (0 < keep) × (keep ≤ 32) → (at < keep → keep < 32) →
    (0 < (if b then keep + 1 else keep)) × ((if b then keep + 1 else keep) ≤ 32)
size_by true keep at e k f = (omega arith, omega (arith, f (ltb-true at keep e)))
size_by false keep at e k f = k

pub size_range : (keep at : ℕ) → (0 < keep) × (keep ≤ 32) → (at < keep → keep < 32) → (0 < lower_size keep at) ×
    (lower_size keep at ≤ 32)
size_range keep at k f = size_by (ltb at keep) keep at refl k f

half_by : (less : Bool) (keep : ℕ) → 16 ≤ keep → 16 ≤ (if less then keep + 1 else keep)
half_by true keep h = omega (arith, h)
half_by false keep h = h

kept_half : (all : Bool) → 16 ≤ (if all then 32 else 16)
kept_half true = omega arith
kept_half false = omega arith

-- half of a full node stays below at least, wherever a new one comes
pub half_stays : (all : Bool) (keep at : ℕ) → keep ≡ (if all then 32 else 16) → 16 ≤ lower_size keep at
half_stays all keep at is = half_by (ltb at keep) keep (subst (λ k. 16 ≤ k) (sym is) (kept_half all))
