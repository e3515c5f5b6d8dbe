-- Things that have a number: what a push, a change and a removal leave of each.
use Rattle.std.proofs.Common.{◌≡◌, ◌≢◌, ℕ, ◌+◌, ◌<◌, ◌≤◌, zero, suc, List, [], ◌∷◌, ◌++◌, length, get_or, set, map}
use Rattle.std.proofs.Common.{Bool}
use Rattle.std.proofs.Common.{true, false, cond, not, filter, ◌||◌, ◌==◌, position, IsSome, Some, None, refl, sym, ap}
use Rattle.std.proofs.Common.{◌∙◌, subst, arith, eq-eqb, ⊎_elim}
use Rattle.std.specs.Prelude.{nat_lt}
use Rattle.std.specs.List.{position_or_len, remove, AllByRecursion}
use Rattle.std.proofs.lemmas.Bool.{false≢true, both_ways, cond-true, cond-false, cond_both, cases_Bool, eqb-true}
use Rattle.std.proofs.lemmas.Bool.{ne_eqb}
use Rattle.std.proofs.lemmas.Bool.{or_parts, or_cases, or_right, lt-ltb}
use Rattle.std.proofs.lemmas.List.{length-map}
use Rattle.std.proofs.lemmas.List.Quantifiers.{position-Some}
use Rattle.am_record.specs.ByNumber.{has_number, of_number, with_changed, without_number, RiseBy}
use Rattle.am_record.proofs.Lists.{AllByRecursion-always, AllByRecursion-map, AllByRecursion-push}
use Rattle.am_record.proofs.Lists.{AllByRecursion-filter, map-alike}

differs : (n t u : ℕ) → u ≢ t → (n == t) ≡ true → (n == u) ≡ false
differs n t u d e = ne_eqb n u (λ p. d (sym p ∙ eqb-true n t e))

-- ---- lists made of one another

module _ {A B : Type 0} (number : A → ℕ) (of : B → ℕ) (f : A → B) (same : (x : A) → of (f x) ≡ number x) where
  pub has_number-map : (xs : List A) (t : ℕ) → has_number of (map f xs) t ≡ has_number number xs t
  has_number-map [] t = refl
  has_number-map (x ∷ xs) t = λ i. (same x i == t) || has_number-map xs t i

  pub of_number-map : {C : Type 0} (what : A → C) (told : B → C) (none : C) → ((x : A) → told (f x) ≡ what x) →
      (xs : List A) (t : ℕ) → of_number of told none (map f xs) t ≡ of_number number what none xs t
  of_number-map what told none says [] t = refl
  of_number-map what told none says (x ∷ xs) t = λ i. cond (same x i == t) (says x i)
      (of_number-map what told none says xs t i)

  pub without_number-map : (t : ℕ) (xs : List A) →
      without_number of t (map f xs) ≡ map f (without_number number t xs)
  without_number-map t [] = refl
  without_number-map t (x ∷ xs) =
      let rest = without_number-map t xs in
      ap (λ n. cond (not (n == t)) (f x ∷ without_number of t (map f xs)) (without_number of t (map f xs))) (same x)
      ∙ elim (number x == t) as (λ b. cond (not b) (f x ∷ without_number of t (map f xs))
      (without_number of t (map f xs)) ≡ map f (cond (not b) (x ∷ without_number number t xs)
      (without_number number t xs))) [ true ↦ rest | false ↦ ap (λ ys. f x ∷ ys) rest ]

  pub RiseBy-map : (xs : List A) → RiseBy number xs → RiseBy of (map f xs)
  RiseBy-map [] r = tt
  RiseBy-map (x ∷ xs) r = (above xs r.0, RiseBy-map xs r.1)
    where
      above : (ys : List A) → AllByRecursion (λ y. number x < number y) ys →
          AllByRecursion (λ y. of (f x) < of y) (map f ys)
      above [] a = tt
      above (y ∷ ys) a = (omega (arith, a.0, same x, same y), above ys a.1)

  pub RiseBy-map_back : (xs : List A) → RiseBy of (map f xs) → RiseBy number xs
  RiseBy-map_back [] r = tt
  RiseBy-map_back (x ∷ xs) r = (above xs r.0, RiseBy-map_back xs r.1)
    where
      above : (ys : List A) → AllByRecursion (λ y. of (f x) < of y) (map f ys) →
          AllByRecursion (λ y. number x < number y) ys
      above [] a = tt
      above (y ∷ ys) a = (omega (arith, a.0, same x, same y), above ys a.1)

-- a change of what was made of others, where each that it changes was made alike
pub with_changed-map : {A B : Type 0} (of : B → ℕ) (change : B → B) (f g : A → B) (t : ℕ) (xs : List A) →
    AllByRecursion (λ x. of (f x) ≡ t → change (f x) ≡ g x) xs → ((x : A) → of (f x) ≢ t → f x ≡ g x) →
    with_changed of change t (map f xs) ≡ map g xs
with_changed-map of change f g t [] here there = refl
with_changed-map of change f g t (x ∷ xs) here there =
    let first = cond_both (of (f x) == t) (change (f x)) (f x) (λ y. y ≡ g x) (λ e. here.0 (eqb-true (of (f x)) t e))
    (λ e. there x (λ p. both_ways (of (f x) == t) e (eq-eqb (of (f x)) t p))) in
    let rest = with_changed-map of change f g t xs here.1 there in
    λ i. first i ∷ rest i

module _ {A : Type 0} (number : A → ℕ) where
  -- ---- what is found

  pub of_number-all : {B : Type 0} (what : A → B) (none : B) (P : B → Type 0) (t : ℕ) (xs : List A) →
      AllByRecursion (λ x. number x ≡ t → P (what x)) xs → has_number number xs t ≡ true →
      P (of_number number what none xs t)
  of_number-all what none P t [] a on = absurd (false≢true on)
  of_number-all what none P t (x ∷ xs) a on =
      cond_both (number x == t) (what x) (of_number number what none xs t) P (λ e. a.0 (eqb-true (number x) t e))
      (λ e. of_number-all what none P t xs a.1 (⊎_elim (λ here. absurd (both_ways (number x == t) e here))
      (λ later. later) (or_cases (number x == t) (has_number number xs t) on)))

  pub of_number-known : {B : Type 0} (what : A → B) (none : B) (P : B → Type 0) (t : ℕ) →
      ((x : A) → number x ≡ t → P (what x)) → (xs : List A) → has_number number xs t ≡ true →
      P (of_number number what none xs t)
  of_number-known what none P t h xs = of_number-all what none P t xs
      (AllByRecursion-always (λ x. number x ≡ t → P (what x)) h xs)

  pub of_number-none : {B : Type 0} (what : A → B) (none : B) (t : ℕ) (xs : List A) →
      has_number number xs t ≡ false → of_number number what none xs t ≡ none
  of_number-none what none t [] off = refl
  of_number-none what none t (x ∷ xs) off =
      let parts = or_parts (number x == t) (has_number number xs t) off in
      cond-false (number x == t) (what x) (of_number number what none xs t) parts.0 ∙ of_number-none what none t xs
      parts.1

  -- what is told of what is found
  pub of_number-told : {B C : Type 0} (what : A → B) (none : B) (tell : B → C) (xs : List A) (t : ℕ) →
      tell (of_number number what none xs t) ≡ of_number number (λ x. tell (what x)) (tell none) xs t
  of_number-told what none tell [] t = refl
  of_number-told what none tell (x ∷ xs) t = elim (number x == t) as
      (λ b. tell (cond b (what x) (of_number number what none xs t)) ≡ cond b (tell (what x))
      (of_number number (λ x. tell (what x)) (tell none) xs t))
      [ true ↦ refl | false ↦ of_number-told what none tell xs t ]

  -- what all numbers are, that of one that is there is
  pub number_of_one : (P : ℕ → Type 0) (t : ℕ) (xs : List A) → AllByRecursion (λ x. P (number x)) xs →
      has_number number xs t ≡ true → P t
  number_of_one P t [] a on = absurd (false≢true on)
  number_of_one P t (x ∷ xs) a on =
      ⊎_elim (λ here. subst P (eqb-true (number x) t here) a.0) (λ later. number_of_one P t xs a.1 later)
      (or_cases (number x == t) (has_number number xs t) on)

  pub each_there : (xs : List A) → AllByRecursion (λ x. has_number number xs (number x) ≡ true) xs
  each_there [] = tt
  each_there (x ∷ xs) = (
    ap (λ b. b || has_number number xs (number x)) (eq-eqb (number x) (number x) refl),
    AllByRecursion-map (λ y. has_number number xs (number y) ≡ true) (λ y. has_number number (x ∷ xs) (number y) ≡ true)
        (λ y on. or_right (number x == number y) (has_number number xs (number y)) on) xs (each_there xs),
  )

  -- what differs only where a number isn't there
  pub map-there : {B : Type 0} (f g : A → B) (xs : List A) →
      ((x : A) → has_number number xs (number x) ≡ true → f x ≡ g x) → map f xs ≡ map g xs
  map-there f g xs h = map-alike f g xs (AllByRecursion-map (λ x. has_number number xs (number x) ≡ true)
      (λ x. f x ≡ g x) h xs (each_there xs))

  -- ---- one more

  pub has_number-push_other : (xs : List A) (x : A) (t : ℕ) → number x ≢ t →
      has_number number (xs ++ x ∷ []) t ≡ has_number number xs t
  has_number-push_other [] x t d = ap (λ b. b || false) (ne_eqb (number x) t d)
  has_number-push_other (y ∷ xs) x t d = ap (λ b. (number y == t) || b) (has_number-push_other xs x t d)

  pub has_number-push_own : (xs : List A) (x : A) → has_number number (xs ++ x ∷ []) (number x) ≡ true
  has_number-push_own [] x = ap (λ b. b || false) (eq-eqb (number x) (number x) refl)
  has_number-push_own (y ∷ xs) x = or_right (number y == number x) (has_number number (xs ++ x ∷ []) (number x))
      (has_number-push_own xs x)

  pub of_number-push_none : {B : Type 0} (what : A → B) (none : B) (xs : List A) (x : A) (t : ℕ) → what x ≡ none →
      of_number number what none (xs ++ x ∷ []) t ≡ of_number number what none xs t
  of_number-push_none what none [] x t e = cond_both (number x == t) (what x) none (λ y. y ≡ none) (λ _. e) (λ _. refl)
  of_number-push_none what none (y ∷ xs) x t e = ap (cond (number y == t) (what y))
      (of_number-push_none what none xs x t e)

  pub has_number-without_number : (t : ℕ) (xs : List A) → has_number number (without_number number t xs) t ≡ false
  has_number-without_number t [] = refl
  has_number-without_number t (x ∷ xs) =
      let rest = has_number-without_number t xs in
      ⊎_elim
      (λ e. ap (λ b. has_number number (cond (not b) (x ∷ without_number number t xs) (without_number number t xs)) t) e
      ∙ rest)
      (λ e. ap (λ b. has_number number (cond (not b) (x ∷ without_number number t xs) (without_number number t xs)) t) e
      ∙ (λ i. e i || rest i))
      (cases_Bool (number x == t))

  -- ---- the ones with a number are changed

  module _ (f : A → A) (t : ℕ) where
    pub changed_number : ((x : A) → number (f x) ≡ number x) → (x : A) →
        number (cond (number x == t) (f x) x) ≡ number x
    changed_number keeps x = cond_both (number x == t) (f x) x (λ y. number y ≡ number x) (λ _. keeps x) (λ _. refl)

    pub numbers-with_changed : ((x : A) → number (f x) ≡ number x) → (xs : List A) →
        map number (with_changed number f t xs) ≡ map number xs
    numbers-with_changed keeps [] = refl
    numbers-with_changed keeps (x ∷ xs) = λ i. changed_number keeps x i ∷ numbers-with_changed keeps xs i

    pub has_number-with_changed : ((x : A) → number (f x) ≡ number x) → (xs : List A) (u : ℕ) →
        has_number number (with_changed number f t xs) u ≡ has_number number xs u
    has_number-with_changed keeps = has_number-map number number (λ x. cond (number x == t) (f x) x)
        (changed_number keeps)

    pub of_number-with_changed : {B : Type 0} (what : A → B) (none : B) (told : B → B) →
        ((x : A) → number (f x) ≡ number x) → ((x : A) → what (f x) ≡ told (what x)) → (xs : List A) →
        has_number number xs t ≡ true → of_number number what none (with_changed number f t xs) t ≡ told
        (of_number number what none xs t)
    of_number-with_changed what none told keeps says [] on = absurd (false≢true on)
    of_number-with_changed what none told keeps says (x ∷ xs) on =
        let rest = of_number-with_changed what none told keeps says xs in
        let new = of_number number what none (with_changed number f t xs) t in
        ap (λ n. cond (n == t) (what (cond (number x == t) (f x) x)) new) (changed_number keeps x)
        ∙ ⊎_elim
        (λ e. (λ i. cond (e i) (what (cond (e i) (f x) x)) new) ∙ says x
        ∙ sym (λ i. told (cond (e i) (what x) (of_number number what none xs t))))
        (λ e. (λ i. cond (e i) (what (cond (e i) (f x) x)) new)
        ∙ rest (⊎_elim (λ here. absurd (both_ways (number x == t) e here)) (λ later. later)
        (or_cases (number x == t) (has_number number xs t) on))
        ∙ sym (λ i. told (cond (e i) (what x) (of_number number what none xs t))))
        (cases_Bool (number x == t))

    pub of_number-with_changed_other : {B : Type 0} (what : A → B) (none : B) → ((x : A) → number (f x) ≡ number x) →
        (xs : List A) (u : ℕ) → u ≢ t → of_number number what none (with_changed number f t xs) u ≡ of_number number
        what none xs u
    of_number-with_changed_other what none keeps [] u d = refl
    of_number-with_changed_other what none keeps (x ∷ xs) u d =
        let rest = of_number-with_changed_other what none keeps xs u d in
        (λ i. cond (changed_number keeps x i == u) (what (cond (number x == t) (f x) x)) (rest i))
        ∙ ⊎_elim
        (λ e. (λ i. cond (differs (number x) t u d e i) (what (cond (number x == t) (f x) x))
        (of_number number what none xs u))
        ∙ sym (λ i. cond (differs (number x) t u d e i) (what x) (of_number number what none xs u)))
        (λ e. λ i. cond (number x == u) (what (cond (e i) (f x) x)) (of_number number what none xs u))
        (cases_Bool (number x == t))

    -- what the change leaves stays for all
    pub of_number-kept : {B : Type 0} (what : A → B) (none : B) → ((x : A) → number (f x) ≡ number x) →
        ((x : A) → what (f x) ≡ what x) → (xs : List A) (u : ℕ) →
        of_number number what none (with_changed number f t xs) u ≡ of_number number what none xs u
    of_number-kept what none keeps says = of_number-map number number (λ x. cond (number x == t) (f x) x)
        (changed_number keeps) what what none
        (λ x. cond_both (number x == t) (f x) x (λ y. what y ≡ what x) (λ _. says x) (λ _. refl))

    pub with_changed-none : (xs : List A) → has_number number xs t ≡ false → with_changed number f t xs ≡ xs
    with_changed-none [] off = refl
    with_changed-none (x ∷ xs) off =
        let parts = or_parts (number x == t) (has_number number xs t) off in
        λ i. cond (parts.0 i) (f x) x ∷ with_changed-none xs parts.1 i

    pub with_changed-twice : (g : A → A) → ((x : A) → number (f x) ≡ number x) → (xs : List A) →
        with_changed number g t (with_changed number f t xs) ≡ with_changed number (λ x. g (f x)) t xs
    with_changed-twice g keeps xs = with_changed-map number g (λ x. cond (number x == t) (f x) x)
        (λ x. cond (number x == t) (g (f x)) x) t xs
        (AllByRecursion-always _ (λ x e. let on = eq-eqb (number x) t (sym (changed_number keeps x) ∙ e) in
        (λ i. g (cond (on i) (f x) x)) ∙ sym (λ i. cond (on i) (g (f x)) x)) xs)
        (λ x d. let off = ne_eqb (number x) t (λ p. d (changed_number keeps x ∙ p)) in
        (λ i. cond (off i) (f x) x) ∙ sym (λ i. cond (off i) (g (f x)) x))

    pub RiseBy-with_changed : ((x : A) → number (f x) ≡ number x) → (xs : List A) → RiseBy number xs →
        RiseBy number (with_changed number f t xs)
    RiseBy-with_changed keeps = RiseBy-map number number (λ x. cond (number x == t) (f x) x) (changed_number keeps)

    pub without_number-with_changed : ((x : A) → number (f x) ≡ number x) → (xs : List A) →
        without_number number t (with_changed number f t xs) ≡ without_number number t xs
    without_number-with_changed keeps xs =
        without_number-map number number (λ x. cond (number x == t) (f x) x) (changed_number keeps) t xs
        ∙ with_changed-none (without_number number t xs) (has_number-without_number t xs)

  -- ---- the ones with a number are left out

  pub has_number-without_other : (t : ℕ) (xs : List A) (u : ℕ) → u ≢ t →
      has_number number (without_number number t xs) u ≡ has_number number xs u
  has_number-without_other t [] u d = refl
  has_number-without_other t (x ∷ xs) u d =
      let rest = has_number-without_other t xs u d in
      cond_both (not (number x == t)) (x ∷ without_number number t xs) (without_number number t xs)
      (λ ys. has_number number ys u ≡ ((number x == u) || has_number number xs u))
      (λ _. ap (λ b. (number x == u) || b) rest)
      (λ e. rest ∙ sym (ap (λ b. b || has_number number xs u) (differs (number x) t u d (left_out (number x == t) e))))
    where
      left_out : (b : Bool) → not b ≡ false → b ≡ true
      left_out true e = refl
      left_out false e = cc

  pub of_number-without_other : {B : Type 0} (what : A → B) (none : B) (t : ℕ) (xs : List A) (u : ℕ) → u ≢ t →
      of_number number what none (without_number number t xs) u ≡ of_number number what none xs u
  of_number-without_other what none t [] u d = refl
  of_number-without_other what none t (x ∷ xs) u d =
      let rest = of_number-without_other what none t xs u d in
      ⊎_elim
      (λ e. ap (λ b. of_number number what none (cond (not b) (x ∷ without_number number t xs)
      (without_number number t xs)) u) e ∙ rest
      ∙ sym (cond-false (number x == u) (what x) (of_number number what none xs u) (differs (number x) t u d e)))
      (λ e. ap (λ b. of_number number what none (cond (not b) (x ∷ without_number number t xs)
      (without_number number t xs)) u) e ∙ ap (cond (number x == u) (what x)) rest)
      (cases_Bool (number x == t))

  pub without_number-none : (t : ℕ) (xs : List A) → has_number number xs t ≡ false → without_number number t xs ≡ xs
  without_number-none t [] off = refl
  without_number-none t (x ∷ xs) off =
      let parts = or_parts (number x == t) (has_number number xs t) off in
      ap (λ b. cond (not b) (x ∷ without_number number t xs) (without_number number t xs)) parts.0
      ∙ ap (λ ys. x ∷ ys) (without_number-none t xs parts.1)

  pub length-without_number : (t : ℕ) (xs : List A) → length (without_number number t xs) ≤ length xs
  length-without_number t [] = omega arith
  length-without_number t (x ∷ xs) =
      let rest = length-without_number t xs in
      elim (number x == t) as (λ b. length (cond (not b) (x ∷ without_number number t xs)
      (without_number number t xs)) ≤ suc (length xs)) [ true ↦ omega arith | false ↦ omega arith ]

  pub length-without_one : (t : ℕ) (xs : List A) → has_number number xs t ≡ true →
      length (without_number number t xs) < length xs
  length-without_one t [] on = absurd (false≢true on)
  length-without_one t (x ∷ xs) on = fewer (number x == t) on (length-without_one t xs)
    where
      fewer : (b : Bool) → (b || has_number number xs t) ≡ true →
          (has_number number xs t ≡ true → length (without_number number t xs) < length xs) →
          length (cond (not b) (x ∷ without_number number t xs) (without_number number t xs)) < suc (length xs)
      fewer true e rest = omega (arith, length-without_number t xs)
      fewer false e rest = omega (arith, rest e)

  -- ---- rising numbers

  pub RiseBy-filter : (test : A → Bool) (xs : List A) → RiseBy number xs → RiseBy number (filter test xs)
  RiseBy-filter test [] r = tt
  RiseBy-filter test (x ∷ xs) r =
      let rest = RiseBy-filter test xs r.1 in
      elim (test x) as (λ b. RiseBy number (cond b (x ∷ filter test xs) (filter test xs)))
      [ true ↦ (AllByRecursion-filter (λ y. number x < number y) test xs r.0, rest) | false ↦ rest ]

  pub RiseBy-push : (xs : List A) (y : A) → RiseBy number xs → AllByRecursion (λ x. number x < number y) xs →
      RiseBy number (xs ++ y ∷ [])
  RiseBy-push [] y r a = (tt, tt)
  RiseBy-push (x ∷ xs) y r a = (AllByRecursion-push (λ z. number x < number z) xs y r.0 a.0, RiseBy-push xs y r.1 a.1)

  -- each number stands once
  abbrev pub AreOnce : List A → Type 0
  AreOnce [] = Unit {0}
  AreOnce (x ∷ xs) = (has_number number xs (number x) ≡ false) × AreOnce xs

  pub has_number-none : (t : ℕ) (xs : List A) → AllByRecursion (λ x. number x ≢ t) xs → has_number number xs t ≡ false
  has_number-none t [] a = refl
  has_number-none t (x ∷ xs) a = λ i. ne_eqb (number x) t a.0 i || has_number-none t xs a.1 i

  pub AreOnce-RiseBy : (xs : List A) → RiseBy number xs → AreOnce xs
  AreOnce-RiseBy [] r = tt
  AreOnce-RiseBy (x ∷ xs) r = (
    has_number-none (number x) xs (AllByRecursion-map (λ y. number x < number y) (λ y. number y ≢ number x)
        (λ y less e. omega (arith, less, e)) xs r.0),
    AreOnce-RiseBy xs r.1,
  )

  pub each_found : {B : Type 0} (what : A → B) (none : B) (xs : List A) → AreOnce xs →
      AllByRecursion (λ x. of_number number what none xs (number x) ≡ what x) xs
  each_found what none [] o = tt
  each_found what none (x ∷ xs) o = (
    cond-true (number x == number x) (what x) (of_number number what none xs (number x))
        (eq-eqb (number x) (number x) refl),
    later xs o.0 (each_found what none xs o.1),
  )
    where
      later : (ys : List A) → has_number number ys (number x) ≡ false →
          AllByRecursion (λ y. of_number number what none xs (number y) ≡ what y) ys →
          AllByRecursion (λ y. of_number number what none (x ∷ xs) (number y) ≡ what y) ys
      later [] off a = tt
      later (y ∷ ys) off a =
          let parts = or_parts (number y == number x) (has_number number ys (number x)) off in (
            cond-false (number x == number y) (what x) (of_number number what none xs (number y))
                (ne_eqb (number x) (number y)
                (λ e. both_ways (number y == number x) parts.0 (eq-eqb (number y) (number x) (sym e)))) ∙ a.0,
            later ys parts.1 a.1,
          )

  -- ---- at a place

  at_later : (x : A) (xs : List A) (i : ℕ) (d : A) (t : ℕ) → has_number number xs (number x) ≡ false → i < length xs →
      number (get_or xs i d) ≡ t → (number x == t) ≡ false
  at_later x xs i d t off here e = ne_eqb (number x) t
      (λ p. both_ways (has_number number xs (number x)) off (subst (λ n. has_number number xs n ≡ true) (e ∙ sym p)
      (found xs i d here)))
    where
      found : (xs : List A) (i : ℕ) (d : A) → i < length xs → has_number number xs (number (get_or xs i d)) ≡ true
      found [] i d b = absurd (omega (arith, b))
      found (x ∷ xs) zero d b = ap (λ c. c || has_number number xs (number x)) (eq-eqb (number x) (number x) refl)
      found (x ∷ xs) (suc i) d b = or_right (number x == number (get_or xs i d))
          (has_number number xs (number (get_or xs i d))) (found xs i d (omega (arith, b)))

  pub of_number-at : {B : Type 0} (what : A → B) (none : B) (xs : List A) (i : ℕ) (d : A) (t : ℕ) → AreOnce xs →
      i < length xs → number (get_or xs i d) ≡ t → what (get_or xs i d) ≡ of_number number what none xs t
  of_number-at what none [] i d t o b e = absurd (omega (arith, b))
  of_number-at what none (x ∷ xs) zero d t o b e = sym (cond-true (number x == t) (what x)
      (of_number number what none xs t) (eq-eqb (number x) t e))
  of_number-at what none (x ∷ xs) (suc i) d t o b e =
      let here : i < length xs = omega (arith, b) in
      of_number-at what none xs i d t o.1 here e ∙ sym (cond-false (number x == t) (what x)
      (of_number number what none xs t) (at_later x xs i d t o.0 here e))

  pub set-with_changed : (f : A → A) (xs : List A) (i : ℕ) (d : A) (t : ℕ) → AreOnce xs → i < length xs →
      number (get_or xs i d) ≡ t → set xs i (f (get_or xs i d)) ≡ with_changed number f t xs
  set-with_changed f [] i d t o b e = absurd (omega (arith, b))
  set-with_changed f (x ∷ xs) zero d t o b e =
      let on = eq-eqb (number x) t e in
      let rest = with_changed-none f t xs (ap (has_number number xs) (sym e) ∙ o.0) in
      λ j. cond (sym on j) (f x) x ∷ sym rest j
  set-with_changed f (x ∷ xs) (suc i) d t o b e =
      let here : i < length xs = omega (arith, b) in
      let off = at_later x xs i d t o.0 here e in
      let rest = set-with_changed f xs i d t o.1 here e in
      λ j. cond (sym off j) (f x) x ∷ rest j

  pub remove-without_number : (xs : List A) (i : ℕ) (d : A) (t : ℕ) → AreOnce xs → i < length xs →
      number (get_or xs i d) ≡ t → remove xs i ≡ without_number number t xs
  remove-without_number [] i d t o b e = absurd (omega (arith, b))
  remove-without_number (x ∷ xs) zero d t o b e =
      sym (ap (λ c. cond (not c) (x ∷ without_number number t xs) (without_number number t xs))
      (eq-eqb (number x) t e) ∙ without_number-none t xs (ap (has_number number xs) (sym e) ∙ o.0))
  remove-without_number (x ∷ xs) (suc i) d t o b e =
      let here : i < length xs = omega (arith, b) in
      ap (λ rest. x ∷ rest) (remove-without_number xs i d t o.1 here e)
      ∙ ap (λ c. cond (not c) (x ∷ without_number number t xs) (without_number number t xs))
      (sym (at_later x xs i d t o.0 here e))

  -- ---- the place found

  first_of : (t : ℕ) (xs : List A) → position_or_len (λ n. n == t) (map number xs) ≡ position_or_len
      (λ x. number x == t) xs
  first_of t [] = refl
  first_of t (x ∷ xs) = ap (λ k. cond (not (number x == t)) (1 + k) 0) (first_of t xs)

  -- the place of a number is that of what has it
  pub position-map : (t : ℕ) (xs : List A) → position (λ n. n == t) (map number xs) ≡ position (λ x. number x == t) xs
  position-map t xs = λ i. cond (nat_lt (first_of t xs i) (length-map xs number i)) (Some (first_of t xs i)) None

  reached : (t : ℕ) (xs : List A) → has_number number xs t ≡ true →
      position_or_len (λ x. number x == t) xs < length xs
  reached t [] on = absurd (false≢true on)
  reached t (x ∷ xs) on = omega (arith, by_test (number x == t) on (reached t xs))
    where
      by_test : (b : Bool) → (b || has_number number xs t) ≡ true →
          (has_number number xs t ≡ true → position_or_len (λ x. number x == t) xs < length xs) →
          cond (not b) (1 + position_or_len (λ x. number x == t) xs) 0 < 1 + length xs
      by_test true e rest = omega arith
      by_test false e rest = omega (arith, rest e)

  pub position-found : (t : ℕ) (xs : List A) → has_number number xs t ≡ true →
      IsSome (position (λ x. number x == t) xs)
  position-found t xs on = rw (lt-ltb _ _ (reached t xs on)) refl

  -- what is found has the number
  pub position-number : (xs : List A) (i t : ℕ) (d : A) → position (λ x. number x == t) xs ≡ Some i →
      (i < length xs) × (number (get_or xs i d) ≡ t)
  position-number xs i t d e =
      let at = position-Some (λ x. number x == t) xs i d e in
      (at.0, eqb-true (number (get_or xs i d)) t at.1)
