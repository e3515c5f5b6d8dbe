-- The lists that leaves hold.
use Rattle.std.proofs.Common.{◌≡◌, ℕ, zero, suc, ◌+◌, ◌-◌, ◌<◌, ◌≤◌, Bool, List, [], ◌∷◌, length, get_or, set, take}
use Rattle.std.proofs.Common.{drop, refl, sym, ap, ◌∙◌, subst, arith}
use Rattle.std.proofs.lemmas.List.{take-take, drop-drop, drop-take, length-take-le, length-drop}
use Rattle.std.specs.List.{AllByRecursion}
use Rattle.std.specs.declared.cmp.Ordering.TheVariants.{Less, Greater}
use Rattle.am_record.specs.OrderedKey.{OrderedKey}
use Rattle.am_record.specs.declared.entry.Entry.{Entry}
use Rattle.am_record.specs.EntryOrder.{Place, place_of, place_cmp}
use Rattle.am_record.proofs.Lists.{AllByRecursion-take, AllByRecursion-drop}
use Rattle.am_index.specs.Entries.{set_entry, IsRising}
use Rattle.am_index.specs.Places.{AllBelow, AllAbove, IsPlaceOf, IsGapFor}
use Rattle.am_index.proofs.Searches.{set_found}
use Rattle.am_index_leaf.specs.Changes.{set_at}

-- the entry at an index
pub item : (es : List Entry) (i : ℕ) → i < length es → (e : Entry) × (e ≡ get_or es i e)
item [] i lt = absurd (omega arith)
item (e ∷ es) zero lt = (e, refl)
item (e ∷ es) (suc i) lt = item es i (omega arith)

-- ---- an entry written over

module _ (value : List ℕ) (is_ghost : Bool) where
  pub set_at_is : (es : List Entry) (i : ℕ) (e : Entry) → i < length es → e ≡ get_or es i e →
      set es i (record e { value = value; is_ghost = is_ghost }) ≡ set_at es i value is_ghost
  set_at_is [] i e lt here = absurd (omega arith)
  set_at_is (x ∷ es) zero e lt here = ap (λ (y : Entry). record y { value = value; is_ghost = is_ghost } ∷ es) here
  set_at_is (x ∷ es) (suc i) e lt here = ap (λ l. x ∷ l) (set_at_is es i e (omega arith) here)

  places_set_at : (P : Place → Type 0) (es : List Entry) (i : ℕ) → AllByRecursion (λ e. P (place_of e)) es →
      AllByRecursion (λ e. P (place_of e)) (set_at es i value is_ghost)
  places_set_at P [] i a = tt
  places_set_at P (e ∷ es) zero a = a
  places_set_at P (e ∷ es) (suc i) a = (a.0, places_set_at P es i a.1)

  pub rising_set_at : (es : List Entry) (i : ℕ) → IsRising es → IsRising (set_at es i value is_ghost)
  rising_set_at [] i r = tt
  rising_set_at (e ∷ es) zero r = r
  rising_set_at (e ∷ es) (suc i) r = (
    places_set_at (λ q. place_cmp (place_of e) q ≡ Less) es i r.0,
    rising_set_at es i r.1,
  )

  pub set_at_found : (es : List Entry) (part : ℕ) (key : OrderedKey) (i : ℕ) → IsPlaceOf es part key i →
      set_at es i value is_ghost ≡ set_entry es part key value is_ghost
  set_at_found es part key i f =
      let e = item es i f.in_range in
      sym (set_at_is es i e.0 f.in_range e.1) ∙ set_found es part key i f e.0 e.1 value is_ghost

-- ---- gaps of the two parts of a list

module _ (es : List Entry) (part : ℕ) (key : OrderedKey) (i : ℕ) (gap : IsGapFor es part key i) (m : ℕ) where
  pub gap_taken : i ≤ m → m ≤ length es → IsGapFor (take m es) part key i
  gap_taken le within =
      let cut : drop i (take m es) ≡ take (m - i) (drop i es) =
      ap (λ (n : ℕ). drop i (take n es)) {x = m} {y = i + (m - i)} (omega arith) ∙ drop-take i (m - i) es in
      record {
        in_range = omega (arith, length-take-le m es within);
        below = subst (AllBelow (part, key)) (sym (take-take i m es le)) gap.below;
        above = subst (AllAbove (part, key)) (sym cut)
            (AllByRecursion-take (λ e. place_cmp (place_of e) (part, key) ≡ Greater) (m - i) (drop i es) gap.above);
      }

  pub gap_dropped : m ≤ i → IsGapFor (drop m es) part key (i - m)
  gap_dropped le =
      let whole : i ≡ m + (i - m) = omega arith in
      let front : take (i - m) (drop m es) ≡ drop m (take i es) =
      sym (ap (λ (n : ℕ). drop m (take n es)) whole ∙ drop-take m (i - m) es) in
      let back : drop (i - m) (drop m es) ≡ drop i es = drop-drop (i - m) m es ∙
      ap (λ (n : ℕ). drop n es) (sym whole) in
      record {
        in_range = omega (arith, gap.in_range, length-drop m es);
        below = subst (AllBelow (part, key)) (sym front)
            (AllByRecursion-drop (λ e. place_cmp (place_of e) (part, key) ≡ Less) m (take i es) gap.below);
        above = subst (AllAbove (part, key)) (sym back) gap.above;
      }
