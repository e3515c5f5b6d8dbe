-- Who stands in the way of a lock, and who holds a key.
use Rattle.std.proofs.Common.{◌≡◌, ◌≢◌, ℕ, List, [], ◌∷◌, map, Bool, true, false, cond, not, ◌&&◌, ◌==◌, Option, Some}
use Rattle.std.proofs.Common.{None, refl, sym, ap, ◌∙◌, ⊎_elim}
use Rattle.std.proofs.lemmas.Bool.{false≢true, both_ways, cond_both, eqb-true, and_cases, or_cases, not-false}
use Rattle.std.proofs.lemmas.Bool.{and_right}
use Rattle.am_record.specs.OrderedKey.{OrderedKey}
use Rattle.am_record.specs.Asks.{clashes, owns}
use Rattle.am_record.specs.declared.lock.Lock.{Lock}
use Rattle.am_record.specs.ByNumber.{has_number, of_number}
use Rattle.am_record.specs.Owners.{blocker_among, holder_among}

module _ {A B : Type 0} (number : A → ℕ) (of : B → ℕ) (locks : A → List Lock) (held : B → List Lock) (f : A → B)
    (same : (x : A) → of (f x) ≡ number x) (alike : (x : A) → held (f x) ≡ locks x) where
  pub blocker_among-map : (xs : List A) (t : ℕ) (asked : Option Lock) →
      blocker_among of held (map f xs) t asked ≡ blocker_among number locks xs t asked
  blocker_among-map [] t asked = refl
  blocker_among-map (x ∷ xs) t asked = λ i. cond (not (same x i == t) && clashes asked (alike x i)) (Some (same x i))
      (blocker_among-map xs t asked i)

  pub holder_among-map : (xs : List A) (key : OrderedKey) → holder_among of held (map f xs) key ≡ holder_among number
      locks xs key
  holder_among-map [] key = refl
  holder_among-map (x ∷ xs) key = λ i. cond (owns (alike x i) key) (Some (same x i)) (holder_among-map xs key i)

module _ {A : Type 0} (number : A → ℕ) (locks : A → List Lock) where
  -- nobody is in the way of no lock
  pub none_blocks : (xs : List A) (t : ℕ) → blocker_among number locks xs t None ≡ None
  none_blocks [] t = refl
  none_blocks (x ∷ xs) t = ap (λ b. cond b (Some (number x)) (blocker_among number locks xs t None))
      (and_right (not (number x == t)) false refl) ∙ none_blocks xs t

  first_free : (b : Bool) (n : ℕ) (o : Option ℕ) → cond b (Some n) o ≡ None → (b ≡ false) × (o ≡ None)
  first_free true n o h = absurd (cc)
  first_free false n o h = (refl, h)

  -- where nobody is in the way, the locks of no other conflict
  pub nobody_blocks : (none : List Lock) (xs : List A) (t : ℕ) (asked : Option Lock) →
      blocker_among number locks xs t asked ≡ None → (u : ℕ) → has_number number xs u ≡ true → u ≢ t →
      clashes asked (of_number number locks none xs u) ≡ false
  nobody_blocks none [] t asked h u on n = absurd (false≢true on)
  nobody_blocks none (x ∷ xs) t asked h u on n =
      let parts = first_free (not (number x == t) && clashes asked (locks x)) (number x)
      (blocker_among number locks xs t asked) h in
      cond_both (number x == u) (locks x) (of_number number locks none xs u) (λ ls. clashes asked ls ≡ false)
      (λ e. ⊎_elim
      (λ same. absurd (n (sym (eqb-true (number x) u e) ∙ eqb-true (number x) t (not-false (number x == t) same))))
      (λ free. free)
      (and_cases (not (number x == t)) (clashes asked (locks x)) parts.0))
      (λ e. nobody_blocks none xs t asked parts.1 u (⊎_elim (λ here. absurd (both_ways (number x == u) e here))
      (λ later. later) (or_cases (number x == u) (has_number number xs u) on)) n)
