-- Taking several entries out at once.
use Rattle.std.proofs.Common.{◌≡◌, ℕ, zero, suc, ◌+◌, ◌≤◌, List, [], ◌∷◌, ◌++◌, length, take, drop, Bool, true}
use Rattle.std.proofs.Common.{false, cond}
use Rattle.std.proofs.Common.{refl, sym, ap, ◌∙◌, subst, ⊎_elim, arith}
use Rattle.std.specs.Prelude.{IsSome}
use Rattle.std.specs.List.{AllByRecursion}
use Rattle.std.specs.Ordering.{is_eq}
use Rattle.std.specs.declared.cmp.Ordering.TheVariants.{Less}
use Rattle.std.proofs.lemmas.Bool.{cases_Bool, cond-true, cond-false, false≢true}
use Rattle.std.proofs.lemmas.List.{take-append-drop}
use Rattle.am_record.specs.OrderedKey.{OrderedKey}
use Rattle.am_record.specs.EntryOrder.{Place, place_of, place_cmp}
use Rattle.am_record.specs.declared.entry.Entry.{Entry}
use Rattle.am_record.proofs.Lists.{AllByRecursion-drop}
use Rattle.am_index.specs.Entries.{find, remove_entry, remove_from, IsRising}
use Rattle.am_index.specs.Places.{AllBelow}
use Rattle.am_index.proofs.Edits.{find-miss, place_cmp-itself}
use Rattle.am_index.proofs.Lists.{rising_back}

module _ (part : ℕ) (key : OrderedKey) where
  abbrev p : Place
  p = (part, key)

  abbrev is_here : Entry → Bool
  is_here e = is_eq (place_cmp (place_of e) p)

  pub from-hit : (e : Entry) (es : List Entry) (n : ℕ) → is_here e ≡ true → remove_from (e ∷ es) part key n ≡ drop n
      (e ∷ es)
  from-hit e es n hit = cond-true (is_here e) (drop n (e ∷ es)) (e ∷ remove_from es part key n) hit

  pub from-miss : (e : Entry) (es : List Entry) (n : ℕ) → is_here e ≡ false → remove_from (e ∷ es) part key n ≡ e ∷
      remove_from es part key n
  from-miss e es n miss = cond-false (is_here e) (drop n (e ∷ es)) (e ∷ remove_from es part key n) miss

  -- one of them is the one
  pub remove_one : (es : List Entry) → remove_from es part key 1 ≡ remove_entry es part key
  remove_one [] = refl
  remove_one (e ∷ es) = ap (λ l. cond (is_here e) es (e ∷ l)) (remove_one es)

  -- after what is below the place
  pub remove_from-back : (xs ys : List Entry) (n : ℕ) → AllBelow p xs → remove_from (xs ++ ys) part key n ≡ xs ++
      remove_from ys part key n
  remove_from-back [] ys n below = refl
  remove_from-back (e ∷ xs) ys n below = from-miss e (xs ++ ys) n (ap is_eq below.0) ∙
      ap (λ l. e ∷ l) (remove_from-back xs ys n below.1)

  -- from an entry on
  pub remove_from-at : (xs : List Entry) (y : Entry) (ys : List Entry) (n : ℕ) → AllBelow p xs → place_of y ≡ p →
      remove_from (xs ++ y ∷ ys) part key n ≡ xs ++ drop n (y ∷ ys)
  remove_from-at xs y ys n below at = remove_from-back xs (y ∷ ys) n below ∙
      ap (λ l. xs ++ l) (from-hit y ys n (ap is_eq (ap (λ q. place_cmp q p) at ∙ place_cmp-itself p)))

  -- what follows all that is taken is as before
  drop-front : (n : ℕ) (xs ys : List Entry) → n ≤ length xs → drop n (xs ++ ys) ≡ drop n xs ++ ys
  drop-front zero xs ys le = refl
  drop-front (suc n) [] ys le = absurd (omega (arith, le))
  drop-front (suc n) (x ∷ xs) ys le = drop-front n xs ys (omega (arith, le))

  -- where so many were taken, so many were there
  dropped : (n : ℕ) (xs : List Entry) → length (drop n xs) + n ≡ length xs → n ≤ length xs
  dropped n xs h = omega (arith, h)

  pub remove_from-front : (xs ys : List Entry) (n : ℕ) → IsSome (find xs part key) →
      length (remove_from xs part key n) + n ≡ length xs
      → remove_from (xs ++ ys) part key n ≡ remove_from xs part key n ++ ys
  remove_from-front [] ys n there all = absurd (false≢true there)
  remove_from-front (e ∷ xs) ys n there all = ⊎_elim
      (λ hit.
      let gone = from-hit e xs n hit in
      from-hit e (xs ++ ys) n hit ∙ drop-front n (e ∷ xs) ys
      (dropped n (e ∷ xs) (ap (λ l. length l + n) (sym gone) ∙ all)) ∙ ap (λ l. l ++ ys) (sym gone))
      (λ miss.
      let gone = from-miss e xs n miss in
      from-miss e (xs ++ ys) n miss ∙ ap (λ l. e ∷ l) (remove_from-front xs ys n
      (subst IsSome (find-miss part key e xs miss) there)
      (let long : suc (length (remove_from xs part key n)) + n ≡ suc (length xs) = ap (λ l. length l + n) (sym gone) ∙
      all
      in omega (arith, long)))
      ∙ ap (λ l. l ++ ys) (sym gone))
      (cases_Bool (is_here e))

  pub all_remove_from : (P : Entry → Type 0) (es : List Entry) (n : ℕ) → AllByRecursion P es →
      AllByRecursion P (remove_from es part key n)
  all_remove_from P [] n all = tt
  all_remove_from P (e ∷ es) n all =
      elim (is_here e) as (λ b. AllByRecursion P (cond b (drop n (e ∷ es)) (e ∷ remove_from es part key n))) [
        | true ↦ AllByRecursion-drop P n (e ∷ es) all
        | false ↦ (all.0, all_remove_from P es n all.1)
      ]

  pub rising_remove_from : (es : List Entry) (n : ℕ) → IsRising es → IsRising (remove_from es part key n)
  rising_remove_from [] n rise = tt
  rising_remove_from (e ∷ es) n rise =
      elim (is_here e) as (λ b. IsRising (cond b (drop n (e ∷ es)) (e ∷ remove_from es part key n))) [
        | true ↦ rising_back (take n (e ∷ es)) (drop n (e ∷ es))
            (subst IsRising (sym (take-append-drop n (e ∷ es))) rise)
        | false ↦ (
          all_remove_from (λ f. place_cmp (place_of e) (place_of f) ≡ Less) es n rise.0,
          rising_remove_from es n rise.1,
        )
      ]

-- the one entry of a place, gone
pub one_fewer : (es : List Entry) (part : ℕ) (key : OrderedKey) → IsSome (find es part key) →
    length (remove_entry es part key) + 1 ≡ length es
one_fewer [] part key there = absurd (false≢true there)
one_fewer (e ∷ es) part key there = ⊎_elim
    (λ hit. let gone = ap length (cond-true (is_eq (place_cmp (place_of e) (part, key))) es
    (e ∷ remove_entry es part key) hit) in omega (arith, gone))
    (λ miss. let gone = ap length (cond-false (is_eq (place_cmp (place_of e) (part, key))) es
    (e ∷ remove_entry es part key) miss) in
    omega (arith, gone, one_fewer es part key (subst IsSome (find-miss part key e es miss) there)))
    (cases_Bool (is_eq (place_cmp (place_of e) (part, key))))
