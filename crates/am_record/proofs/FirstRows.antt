-- The first record whose key passes a test, among records whose keys rise.
use Rattle.std.proofs.Common.{◌≡◌, ℕ, Bool, true, false, List, [], ◌∷◌, filter, Some, None, refl, sym, ap, ◌∙◌, subst}
use Rattle.std.proofs.Common.{⊎_elim}
use Rattle.std.specs.Prelude.{is_some}
use Rattle.std.proofs.lemmas.Bool.{cases_Bool, cond-true, cond-false, and_parts, true≢false, false≢true}
use Rattle.std.proofs.lemmas.Option.{none-some, same_Some}
use Rattle.std.specs.declared.cmp.Ordering.{Ordering}
use Rattle.std.specs.declared.cmp.Ordering.TheVariants.{Less, Equal, Greater}
use Rattle.std.specs.Ordering.{is_eq, is_lt, is_le, eq_by_cmp, ordering_reverse}
use Rattle.std.specs.FinMap.{find as looked_up, is_sorted}
use Rattle.std.specs.FinMap.Entries.{below_all}
use Rattle.am_record.specs.OrderedKey.{OrderedKey, key_cmp, key_cmp-total, key_cmp-exact, key_cmp-itself, key_eq-exact}
use Rattle.am_record.specs.Interval.{key_le, key_le-itself}
use Rattle.am_record.specs.Records.{Records}
use Rattle.am_record.specs.Plain.{first_key}
use Rattle.am_record.proofs.Orderings.{is_less}

abbrev pub Record : Type 0
Record = OrderedKey × List ℕ

below_parts : (k : OrderedKey) (r : Record) (rs : Records) → below_all key_cmp k (r ∷ rs) ≡ true →
    (is_lt (key_cmp k r.0) ≡ true) × (below_all key_cmp k rs ≡ true)
below_parts k r rs h = and_parts (is_lt (key_cmp k r.0)) (below_all key_cmp k rs) h

sorted_parts : (r : Record) (rs : Records) → is_sorted key_cmp (r ∷ rs) ≡ true → (below_all key_cmp r.0 rs ≡ true) ×
    (is_sorted key_cmp rs ≡ true)
sorted_parts r rs h = and_parts (below_all key_cmp r.0 rs) (is_sorted key_cmp rs) h

abbrev pub key_eq : OrderedKey → OrderedKey → Bool
key_eq a b = eq_by_cmp key_cmp a b

pub key_eq-itself : (k : OrderedKey) → key_eq k k ≡ true
key_eq-itself k = ap is_eq (key_cmp-itself k)

pub le_of_less : (k l : OrderedKey) → key_cmp k l ≡ Less → key_le k l ≡ true
le_of_less k l h = ap is_le h

pub le_of_equal : (k l : OrderedKey) → key_eq l k ≡ true → key_le k l ≡ true
le_of_equal k l h = subst (λ x. key_le k x ≡ true) (sym (key_eq-exact l k h)) (key_le-itself k)

tied_order : (o : Ordering) → is_le o ≡ true → is_le (ordering_reverse o) ≡ true → o ≡ Equal
tied_order Less h g = absurd (false≢true g)
tied_order Equal h g = refl
tied_order Greater h g = absurd (false≢true h)

-- keys that are each not above the other are one
pub le_both : (k l : OrderedKey) → key_le k l ≡ true → key_le l k ≡ true → k ≡ l
le_both k l h g = key_cmp-exact k l (tied_order (key_cmp k l) h (ap is_le (sym (key_cmp-total.antisymm l k)) ∙ g))

-- ---- the first record whose key passes a test

module _ (test : OrderedKey → Bool) where
  abbrev pub rows : Records → Records
  rows es = filter (λ (e : Record). test e.0) es

  module _ (e : Record) (es : Records) where
    first_here : test e.0 ≡ true → first_key (rows (e ∷ es)) ≡ Some e.0
    first_here h = ap first_key (cond-true (test e.0) (e ∷ rows es) (rows es) h)

    first_later : test e.0 ≡ false → first_key (rows (e ∷ es)) ≡ first_key (rows es)
    first_later h = ap first_key (cond-false (test e.0) (e ∷ rows es) (rows es) h)

    found_here : (k : OrderedKey) → key_eq k e.0 ≡ true → looked_up key_cmp k (e ∷ es) ≡ Some e.1
    found_here k h = cond-true (key_eq k e.0) (Some e.1) (looked_up key_cmp k es) h

    found_later : (k : OrderedKey) → key_eq k e.0 ≡ false → looked_up key_cmp k (e ∷ es) ≡ looked_up key_cmp k es
    found_later k h = cond-false (key_eq k e.0) (Some e.1) (looked_up key_cmp k es) h

  pub first_passes : (es : Records) (k : OrderedKey) → first_key (rows es) ≡ Some k → test k ≡ true
  first_passes [] k h = absurd (none-some k h)
  first_passes (e ∷ es) k h =
      ⊎_elim
      (λ yes. let same : e.0 ≡ k = same_Some _ _ (sym (first_here e es yes) ∙ h) in subst (λ x. test x ≡ true) same yes)
      (λ no. first_passes es k (sym (first_later e es no) ∙ h))
      (cases_Bool (test e.0))

  pub first_found : (es : Records) (k : OrderedKey) → first_key (rows es) ≡ Some k →
      is_some (looked_up key_cmp k es) ≡ true
  first_found [] k h = absurd (none-some k h)
  first_found (e ∷ es) k h =
      ⊎_elim
      (λ tie. ap is_some (found_here e es k tie))
      (λ apart.
      ap is_some (found_later e es k apart)
      ∙ ⊎_elim
      (λ yes. let same : e.0 ≡ k = same_Some _ _ (sym (first_here e es yes) ∙ h) in
      absurd (true≢false (sym (key_eq-itself k) ∙ ap (key_eq k) (sym same) ∙ apart)))
      (λ no. first_found es k (sym (first_later e es no) ∙ h))
      (cases_Bool (test e.0)))
      (cases_Bool (key_eq k e.0))

  pub none_found : (es : Records) → first_key (rows es) ≡ None → (k : OrderedKey) → test k ≡ true →
      looked_up key_cmp k es ≡ None
  none_found [] none k h = refl
  none_found (e ∷ es) none k h =
      ⊎_elim
      (λ yes. absurd (none-some e.0 (sym none ∙ first_here e es yes)))
      (λ no.
      ⊎_elim
      (λ tie. absurd (true≢false (sym h ∙ ap test (key_eq-exact k e.0 tie) ∙ no)))
      (λ apart. found_later e es k apart ∙ none_found es (sym (first_later e es no) ∙ none) k h)
      (cases_Bool (key_eq k e.0)))
      (cases_Bool (test e.0))

  -- a key that is found among records above another is above it
  found_above : (low : OrderedKey) (es : Records) (k : OrderedKey) → below_all key_cmp low es ≡ true →
      is_some (looked_up key_cmp k es) ≡ true → key_cmp low k ≡ Less
  found_above low [] k below h = absurd (false≢true h)
  found_above low (e ∷ es) k below h =
      ⊎_elim
      (λ tie. ap (key_cmp low) (key_eq-exact k e.0 tie) ∙ is_less _ (below_parts low e es below).0)
      (λ apart. found_above low es k (below_parts low e es below).1 (sym (ap is_some (found_later e es k apart)) ∙ h))
      (cases_Bool (key_eq k e.0))

  pub first_least : (es : Records) → is_sorted key_cmp es ≡ true → (q : OrderedKey) → first_key (rows es) ≡ Some q →
      (k : OrderedKey) → test k ≡ true → is_some (looked_up key_cmp k es) ≡ true → key_le q k ≡ true
  first_least [] sorted q h k passes found = absurd (none-some q h)
  first_least (e ∷ es) sorted q h k passes found =
      ⊎_elim
      (λ yes.
      let same : e.0 ≡ q = same_Some _ _ (sym (first_here e es yes) ∙ h) in
      subst (λ x. key_le x k ≡ true) same
      (⊎_elim
      (λ tie. le_of_equal e.0 k tie)
      (λ apart. le_of_less e.0 k (found_above e.0 es k (sorted_parts e es sorted).0
      (sym (ap is_some (found_later e es k apart)) ∙ found)))
      (cases_Bool (key_eq k e.0))))
      (λ no.
      ⊎_elim
      (λ tie. absurd (true≢false (sym passes ∙ ap test (key_eq-exact k e.0 tie) ∙ no)))
      (λ apart. first_least es (sorted_parts e es sorted).1 q (sym (first_later e es no) ∙ h) k passes
      (sym (ap is_some (found_later e es k apart)) ∙ found))
      (cases_Bool (key_eq k e.0)))
      (cases_Bool (test e.0))
