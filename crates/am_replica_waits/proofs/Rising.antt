-- Lists whose numbers rise, and what is found in them.
use Rattle.std.proofs.Common.{◌≡◌, ℕ, ◌+◌, ◌<◌, ◌≤◌, ◌==◌, List, [], ◌∷◌, ◌++◌, Bool, true, false, ◌||◌, refl}
use Rattle.std.proofs.Common.{arith, sym, ap, subst, ◌∙◌, inl, inr}
use Rattle.std.proofs.lemmas.Bool.{or_cases, or_parts, or_from, eqb-true, ne_eqb, both_ways}
use Rattle.std.proofs.lemmas.Bool.{false_from_ne_true, cases_Bool, cond-true, cond-false}
use Rattle.std.proofs.lemmas.List.Folds.{list_any-append}
use Rattle.std.specs.List.{AllByRecursion}
use Rattle.am_replica_waits.specs.declared.queue.Waiting.{Waiting}
use Rattle.am_replica_waits.specs.Queues.{is_of, all_but}

-- the numbers rise, from one up to below another
abbrev pub Rise : ℕ → ℕ → List Waiting → Type 0
Rise low high [] = low ≤ high
Rise low high (w ∷ ws) = (low ≤ w.number) × Rise (w.number + 1) high ws

pub of-append : (n : ℕ) (xs ys : List Waiting) → is_of n (xs ++ ys) ≡ (is_of n xs || is_of n ys)
of-append n xs ys = list_any-append (λ w. w.number == n) xs ys

or_later : (a b : Bool) → a ≡ false → (a || b) ≡ true → b ≡ true
or_later a b never is = elim (or_cases a b is) [ inl e ↦ absurd (both_ways a never e) | inr e ↦ e ]

low_high : (low high : ℕ) (ws : List Waiting) → Rise low high ws → low ≤ high
low_high low high [] r = r
low_high low high (w ∷ ws) r =
    let first : low ≤ w.number = r.0 in
    let rest : w.number + 1 ≤ high = low_high (w.number + 1) high ws r.1 in omega arith

pub rise_lower : (low under high : ℕ) (ws : List Waiting) → under ≤ low → Rise low high ws → Rise under high ws
rise_lower low under high [] le r = let top : low ≤ high = r in omega arith
rise_lower low under high (w ∷ ws) le r = let first : low ≤ w.number = r.0 in (omega arith, r.1)

-- nobody has a number below the first
pub none_below : (n low high : ℕ) (ws : List Waiting) → n < low → Rise low high ws → is_of n ws ≡ false
none_below n low high [] lt r = refl
none_below n low high (w ∷ ws) lt r =
    let first : low ≤ w.number = r.0 in
    or_from (w.number == n) (is_of n ws) (ne_eqb w.number n (λ e. let same : w.number ≡ n = e in omega arith))
    (none_below n (w.number + 1) high ws (omega arith) r.1)

pub under_high : (n low high : ℕ) (ws : List Waiting) → Rise low high ws → is_of n ws ≡ true → n < high
under_high n low high [] r is = absurd (both_ways false refl is)
under_high n low high (w ∷ ws) r is = elim (or_cases (w.number == n) (is_of n ws) is) [
  | inl e ↦
      let same : w.number ≡ n = eqb-true w.number n e in
      let top : w.number + 1 ≤ high = low_high (w.number + 1) high ws r.1 in omega arith
  | inr e ↦ under_high n (w.number + 1) high ws r.1 e
]

-- one more, with the next number
pub rise_push : (low high bytes : ℕ) (ws : List Waiting) → Rise low high ws →
    Rise low (high + 1) (ws ++ record { number = high; bytes = bytes } ∷ [])
rise_push low high bytes [] r = let le : low ≤ high = r in (le, omega arith)
rise_push low high bytes (w ∷ ws) r = (r.0, rise_push (w.number + 1) high bytes ws r.1)

pub rise_front : (low high : ℕ) (xs ys : List Waiting) → Rise low high (xs ++ ys) → Rise low high xs
rise_front low high [] ys r = low_high low high ys r
rise_front low high (x ∷ xs) ys r = (r.0, rise_front (x.number + 1) high xs ys r.1)

-- whoever is in front isn't behind
pub in_front : (n low high : ℕ) (xs ys : List Waiting) → Rise low high (xs ++ ys) → is_of n xs ≡ true →
    is_of n ys ≡ false
in_front n low high [] ys r is = absurd (both_ways false refl is)
in_front n low high (x ∷ xs) ys r is = elim (or_cases (x.number == n) (is_of n xs) is) [
  | inl e ↦
      let same : x.number ≡ n = eqb-true x.number n e in
      (or_parts (is_of n xs) (is_of n ys)
      (sym (of-append n xs ys) ∙ none_below n (x.number + 1) high (xs ++ ys) (omega arith) r.1)).1
  | inr e ↦ in_front n (x.number + 1) high xs ys r.1 e
]

pub is_behind : (n low high : ℕ) (xs ys : List Waiting) → Rise low high (xs ++ ys) → is_of n ys ≡ true →
    is_of n xs ≡ false
is_behind n low high xs ys r is =
    false_from_ne_true (is_of n xs) (λ did. both_ways (is_of n ys) (in_front n low high xs ys r did) is)

-- ---- all but one

module _ (n : ℕ) where
  pub but_here : (w : Waiting) (ws : List Waiting) → (w.number == n) ≡ true → all_but n (w ∷ ws) ≡ ws
  but_here w ws e = cond-true (w.number == n) ws (w ∷ all_but n ws) e

  pub but_later : (w : Waiting) (ws : List Waiting) → (w.number == n) ≡ false →
      all_but n (w ∷ ws) ≡ w ∷ all_but n ws
  but_later w ws e = cond-false (w.number == n) ws (w ∷ all_but n ws) e

  pub but_none : (ws : List Waiting) → is_of n ws ≡ false → all_but n ws ≡ ws
  but_none [] e = refl
  but_none (w ∷ ws) e =
      let p = or_parts (w.number == n) (is_of n ws) e in
      but_later w ws p.0 ∙ ap (λ vs. w ∷ vs) (but_none ws p.1)

  pub but_in_front : (xs ys : List Waiting) → is_of n xs ≡ true → all_but n (xs ++ ys) ≡ all_but n xs ++ ys
  but_in_front [] ys is = absurd (both_ways false refl is)
  but_in_front (x ∷ xs) ys is = elim (cases_Bool (x.number == n)) [
    | inl e ↦ but_here x (xs ++ ys) e ∙ ap (λ zs. zs ++ ys) (sym (but_here x xs e))
    | inr e ↦ but_later x (xs ++ ys) e
        ∙ ap (λ zs. x ∷ zs) (but_in_front xs ys (or_later (x.number == n) (is_of n xs) e is))
        ∙ ap (λ zs. zs ++ ys) (sym (but_later x xs e))
  ]

  pub but_behind : (xs ys : List Waiting) → is_of n xs ≡ false → all_but n (xs ++ ys) ≡ xs ++ all_but n ys
  but_behind [] ys never = refl
  but_behind (x ∷ xs) ys never =
      let p = or_parts (x.number == n) (is_of n xs) never in
      but_later x (xs ++ ys) p.0 ∙ ap (λ zs. x ∷ zs) (but_behind xs ys p.1)

  pub but_rises : (low high : ℕ) (ws : List Waiting) → Rise low high ws → Rise low high (all_but n ws)
  but_rises low high [] r = r
  but_rises low high (w ∷ ws) r = elim (cases_Bool (w.number == n)) [
    | inl e ↦
        let first : low ≤ w.number = r.0 in
        subst (Rise low high) (sym (but_here w ws e))
        (rise_lower (w.number + 1) low high ws (omega arith) r.1)
    | inr e ↦ subst (Rise low high) (sym (but_later w ws e)) (r.0, but_rises (w.number + 1) high ws r.1)
  ]

  -- the one of that number is gone
  pub but_gone : (low high : ℕ) (ws : List Waiting) → Rise low high ws → is_of n (all_but n ws) ≡ false
  but_gone low high [] r = refl
  but_gone low high (w ∷ ws) r = elim (cases_Bool (w.number == n)) [
    | inl e ↦
        let same : w.number ≡ n = eqb-true w.number n e in
        ap (is_of n) (but_here w ws e) ∙ none_below n (w.number + 1) high ws (omega arith) r.1
    | inr e ↦
        ap (is_of n) (but_later w ws e)
        ∙ or_from (w.number == n) (is_of n (all_but n ws)) e (but_gone (w.number + 1) high ws r.1)
  ]

  pub but_each : (P : Waiting → Type 0) (ws : List Waiting) → AllByRecursion P ws → AllByRecursion P (all_but n ws)
  but_each P [] all = tt
  but_each P (w ∷ ws) all = elim (cases_Bool (w.number == n)) [
    | inl e ↦ subst (AllByRecursion P) (sym (but_here w ws e)) all.1
    | inr e ↦ subst (AllByRecursion P) (sym (but_later w ws e)) (all.0, but_each P ws all.1)
  ]

  -- whoever isn't there still isn't
  pub but_absent : (m : ℕ) (ws : List Waiting) → is_of m ws ≡ false → is_of m (all_but n ws) ≡ false
  but_absent m [] never = refl
  but_absent m (w ∷ ws) never =
      let p = or_parts (w.number == m) (is_of m ws) never in
      elim (cases_Bool (w.number == n)) [
        | inl e ↦ ap (is_of m) (but_here w ws e) ∙ p.1
        | inr e ↦
            ap (is_of m) (but_later w ws e)
            ∙ or_from (w.number == m) (is_of m (all_but n ws)) p.0 (but_absent m ws p.1)
      ]
