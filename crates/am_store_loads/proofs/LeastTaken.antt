-- The least key of some records that a map has.
use Rattle.std.proofs.Common.{◌≡◌, true, [], ◌∷◌, Option, Some, None, refl, sym, ap, ◌∙◌, ⊎_elim}
use Rattle.std.specs.Prelude.{is_some}
use Rattle.std.proofs.lemmas.Bool.{or_left, or_right, or_cases, false≢true}
use Rattle.std.specs.List.{AllByRecursion}
use Rattle.std.specs.FinMap.{get, entries, entries_sorted, get-entries}
use Rattle.am_record.specs.OrderedKey.{OrderedKey, key_eq-exact}
use Rattle.am_record.specs.Interval.{key_le}
use Rattle.am_record.specs.Plain.{PlainMap, Records, is_key_of, least_taken}
use Rattle.am_record.proofs.FirstRows.{Record, key_eq, key_eq-itself, le_both, first_passes, first_found, none_found}
use Rattle.am_record.proofs.FirstRows.{first_least}
use Rattle.am_record.proofs.Outcomes.{is_true}

-- the map has no key of the records
abbrev pub NoneTaken : PlainMap → Records → Type 0
NoneTaken m rs = AllByRecursion (λ (r : Record). get m r.0 ≡ None) rs

-- of the records' keys that the map has the least one, where it has one
abbrev pub IsLeast : PlainMap → Records → Option OrderedKey → Type 0
IsLeast m rs None = (q : OrderedKey) → is_key_of rs q ≡ true → get m q ≡ None
IsLeast m rs (Some k) = (is_key_of rs k ≡ true) × (is_some (get m k) ≡ true) ×
    ((q : OrderedKey) → is_key_of rs q ≡ true → is_some (get m q) ≡ true → key_le k q ≡ true)

module _ (m : PlainMap) where
  only_one : (rs : Records) (a b : Option OrderedKey) → IsLeast m rs a → IsLeast m rs b → a ≡ b
  only_one rs None None x y = refl
  only_one rs None (Some k) x y = absurd (false≢true (sym (ap is_some (x k y.0)) ∙ y.1))
  only_one rs (Some k) None x y = absurd (false≢true (sym (ap is_some (y k x.0)) ∙ x.1))
  only_one rs (Some k) (Some l) x y = ap (λ q. Some q) (le_both k l (x.2 l y.0 y.1) (y.2 k x.0 x.1))

  pub is_least : (rs : Records) → IsLeast m rs (least_taken rs m)
  is_least rs = by_cases (least_taken rs m) refl
    where
      by_cases : (o : Option OrderedKey) → least_taken rs m ≡ o → IsLeast m rs o
      by_cases None h = λ q key. get-entries m q ∙ none_found (is_key_of rs) (entries m) h q key
      by_cases (Some k) h = (
        first_passes (is_key_of rs) (entries m) k h,
        ap is_some (get-entries m k) ∙ first_found (is_key_of rs) (entries m) k h,
        λ q key taken. first_least (is_key_of rs) (entries m) (is_true _ (entries_sorted m)) k h q key
            (sym (ap is_some (get-entries m q)) ∙ taken),
      )

  -- there is but one, so what is found is it
  pub least_found : (rs : Records) (o : Option OrderedKey) → IsLeast m rs o → o ≡ least_taken rs m
  least_found rs o h = only_one rs o (least_taken rs m) h (is_least rs)

  none_of : (all rs : Records) → least_taken all m ≡ None →
      ((k : OrderedKey) → is_key_of rs k ≡ true → is_key_of all k ≡ true) → NoneTaken m rs
  none_of all [] h within = tt
  none_of all (r ∷ rs) h within = (
    get-entries m r.0 ∙ none_found (is_key_of all) (entries m) h r.0
        (within r.0 (or_left (key_eq r.0 r.0) (is_key_of rs r.0) (key_eq-itself r.0))),
    none_of all rs h (λ k key. within k (or_right (key_eq k r.0) (is_key_of rs k) key)),
  )

  pub none_from_least : (rs : Records) → least_taken rs m ≡ None → NoneTaken m rs
  none_from_least rs h = none_of rs rs h (λ k key. key)

  -- and the other way round
  absent_key : (rs : Records) → NoneTaken m rs → (q : OrderedKey) → is_key_of rs q ≡ true → get m q ≡ None
  absent_key [] none q one = absurd (false≢true one)
  absent_key (r ∷ rs) none q one =
      ⊎_elim
      (λ here. ap (get m) (key_eq-exact q r.0 here) ∙ none.0)
      (λ later. absent_key rs none.1 q later)
      (or_cases (key_eq q r.0) (is_key_of rs q) one)

  pub least_from_none : (rs : Records) → NoneTaken m rs → least_taken rs m ≡ None
  least_from_none rs none = sym (least_found rs None (absent_key rs none))
