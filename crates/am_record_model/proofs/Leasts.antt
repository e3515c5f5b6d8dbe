-- The least key of some records that a map has, found one record after another.
use Rattle.std.proofs.Common.{◌≡◌, true, false, [], ◌∷◌, ◌++◌, ◌||◌, Option, Some, None, refl, sym, ap, ◌∙◌, subst}
use Rattle.std.proofs.Common.{⊎_elim}
use Rattle.std.specs.Prelude.{is_some, cond}
use Rattle.std.proofs.lemmas.Bool.{or_cases, or_left, or_right, true≢false, false≢true}
use Rattle.std.proofs.lemmas.List.Folds.{list_any-append}
use Rattle.std.specs.declared.cmp.Ordering.{Ordering}
use Rattle.std.specs.declared.cmp.Ordering.TheVariants.{Less, Equal, Greater}
use Rattle.std.specs.Ordering.{is_lt, is_le, ordering_reverse}
use Rattle.std.specs.FinMap.{get, entries, entries_sorted, get-entries}
use Rattle.am_record.specs.OrderedKey.{OrderedKey, key_cmp, key_cmp-total, key_cmp-exact, key_eq-exact}
use Rattle.am_record.specs.Interval.{key_le, key_le-itself}
use Rattle.am_record.specs.Plain.{PlainMap, Records, is_key_of, least_taken}
use Rattle.am_record.proofs.FirstRows.{Record, key_eq, key_eq-itself, le_both, first_passes, first_found, none_found}
use Rattle.am_record.proofs.FirstRows.{first_least}
use Rattle.am_record.proofs.Outcomes.{is_true}
use Rattle.am_record_model.specs.Least.{lesser_key}

le_after : (a b c : OrderedKey) → key_cmp a b ≡ Less → key_le b c ≡ true → key_le a c ≡ true
le_after a b c less le = by_order (key_cmp b c) refl le
  where
    by_order : (o : Ordering) → key_cmp b c ≡ o → is_le o ≡ true → key_le a c ≡ true
    by_order Less below h = ap is_le (key_cmp-total.trans a b c less below)
    by_order Equal same h = ap is_le (ap (key_cmp a) (sym (key_cmp-exact b c same)) ∙ less)
    by_order Greater above h = absurd (false≢true h)

-- the least of the records' keys that the map has, and none where it has none of them
abbrev pub IsLeast : PlainMap → Records → Option OrderedKey → Type 0
IsLeast m rs None = (q : OrderedKey) → is_key_of rs q ≡ true → get m q ≡ None
IsLeast m rs (Some k) = (is_key_of rs k ≡ true) × (is_some (get m k) ≡ true) ×
    ((q : OrderedKey) → is_key_of rs q ≡ true → is_some (get m q) ≡ true → key_le k q ≡ true)

some_none : {A : Type 0} → (o : Option A) → is_some o ≡ false → o ≡ None
some_none None h = refl
some_none (Some a) h = absurd (true≢false h)

-- there is but one
only_one : (m : PlainMap) (rs : Records) (a b : Option OrderedKey) → IsLeast m rs a → IsLeast m rs b → a ≡ b
only_one m rs None None x y = refl
only_one m rs None (Some k) x y = absurd (false≢true (sym (ap is_some (x k y.0)) ∙ y.1))
only_one m rs (Some k) None x y = absurd (false≢true (sym (ap is_some (y k x.0)) ∙ x.1))
only_one m rs (Some k) (Some l) x y = ap (λ q. Some q) (le_both k l (x.2 l y.0 y.1) (y.2 k x.0 x.1))

is_least : (m : PlainMap) (rs : Records) → IsLeast m rs (least_taken rs m)
is_least m rs = by_cases (least_taken rs m) refl
  where
    by_cases : (o : Option OrderedKey) → least_taken rs m ≡ o → IsLeast m rs o
    by_cases None h = λ q key. get-entries m q ∙ none_found (is_key_of rs) (entries m) h q key
    by_cases (Some k) h = (
      first_passes (is_key_of rs) (entries m) k h,
      ap is_some (get-entries m k) ∙ first_found (is_key_of rs) (entries m) k h,
      λ q key taken. first_least (is_key_of rs) (entries m) (is_true _ (entries_sorted m)) k h q key
          (sym (ap is_some (get-entries m q)) ∙ taken),
    )

-- so what is found is the least
pub least_found : (m : PlainMap) (rs : Records) (o : Option OrderedKey) → IsLeast m rs o → o ≡ least_taken rs m
least_found m rs o h = only_one m rs o (least_taken rs m) h (is_least m rs)

pub least_of_none : (m : PlainMap) → IsLeast m [] None
least_of_none m q h = absurd (false≢true h)

module _ (m : PlainMap) (front : Records) (r : Record) where
  abbrev more : Records
  more = front ++ r ∷ []

  split : (q : OrderedKey) → is_key_of more q ≡ (is_key_of front q || (key_eq q r.0 || false))
  split q = list_any-append (λ (x : Record). key_eq q x.0) front (r ∷ [])

  module _ {P : Type 0} (q : OrderedKey) where
    either : is_key_of more q ≡ true → (is_key_of front q ≡ true → P) → (q ≡ r.0 → P) → P
    either h before last =
        ⊎_elim before (λ there. last (key_eq-exact q r.0
        (⊎_elim (λ x. x) (λ x. absurd (false≢true x)) (or_cases (key_eq q r.0) false there))))
        (or_cases (is_key_of front q) (key_eq q r.0 || false) (sym (split q) ∙ h))

  before_in : (q : OrderedKey) → is_key_of front q ≡ true → is_key_of more q ≡ true
  before_in q h = split q ∙ or_left (is_key_of front q) (key_eq q r.0 || false) h

  last_in : is_key_of more r.0 ≡ true
  last_in = split r.0 ∙ or_right (is_key_of front r.0) (key_eq r.0 r.0 || false)
      (or_left (key_eq r.0 r.0) false (key_eq-itself r.0))

  -- a record that the map hasn't
  pub least_stays : (o : Option OrderedKey) → IsLeast m front o → is_some (get m r.0) ≡ false → IsLeast m more o
  least_stays None h free = λ q key. either q key (λ there. h q there)
      (λ is. ap (get m) is ∙ some_none (get m r.0) free)
  least_stays (Some k) h free = (
    before_in k h.0,
    h.1,
    λ q key taken. either q key (λ there. h.2 q there taken)
        (λ is. absurd (true≢false (sym taken ∙ ap (λ x. is_some (get m x)) is ∙ free))),
  )

  -- one that it has
  pub least_moves : (o : Option OrderedKey) → IsLeast m front o → is_some (get m r.0) ≡ true →
      IsLeast m more (Some (lesser_key o r.0))
  least_moves None h taken = (
    last_in,
    taken,
    λ q key found. either q key
        (λ there. absurd (false≢true (sym (ap is_some (h q there)) ∙ found)))
        (λ is. subst (λ x. key_le r.0 x ≡ true) (sym is) (key_le-itself r.0)),
  )
  least_moves (Some k) h taken = by_order (key_cmp k r.0) refl
    where
      by_order : (o : Ordering) → key_cmp k r.0 ≡ o → IsLeast m more (Some (cond (is_lt o) k r.0))
      by_order Less less = (
        before_in k h.0,
        h.1,
        λ q key found. either q key (λ there. h.2 q there found)
            (λ is. subst (λ x. key_le k x ≡ true) (sym is) (ap is_le less)),
      )
      by_order Equal same = let is : k ≡ r.0 = key_cmp-exact k r.0 same in (
        last_in,
        taken,
        λ q key found. either q key (λ there. subst (λ x. key_le x q ≡ true) is (h.2 q there found))
            (λ at. subst (λ x. key_le r.0 x ≡ true) (sym at) (key_le-itself r.0)),
      )
      by_order Greater above =
          let below : key_cmp r.0 k ≡ Less = key_cmp-total.antisymm r.0 k ∙ ap ordering_reverse above in (
            last_in,
            taken,
            λ q key found. either q key (λ there. le_after r.0 k q below (h.2 q there found))
                (λ at. subst (λ x. key_le r.0 x ≡ true) (sym at) (key_le-itself r.0)),
          )
