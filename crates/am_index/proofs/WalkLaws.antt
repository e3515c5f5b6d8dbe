-- What the walks over a rising list find, in terms of what stands at each place.
use Rattle.std.proofs.Common.{◌≡◌, ◌≢◌, ℕ, Bool, true, false, ◌&&◌, eqb, List, [], ◌∷◌, Option, Some, None, refl, sym}
use Rattle.std.proofs.Common.{ap, ◌∙◌, subst, ⊎_elim}
use Rattle.std.proofs.lemmas.Bool.{cases_Bool, cond-true, cond-false, true≢false, false≢true, and_parts, eqb-true}
use Rattle.std.proofs.lemmas.Bool.{eq-eqb}
use Rattle.std.proofs.lemmas.Option.{none-some, same_Some}
use Rattle.std.specs.declared.cmp.Ordering.{Ordering}
use Rattle.std.specs.declared.cmp.Ordering.TheVariants.{Less, Equal, Greater}
use Rattle.std.specs.Ordering.{is_eq, is_le, is_ge, is_gt, ordering_reverse}
use Rattle.std.specs.Option.{option_map}
use Rattle.am_record.specs.OrderedKey.{OrderedKey, key_cmp}
use Rattle.am_record.specs.Interval.{key_le}
use Rattle.am_record.specs.EntryOrder.{Place, place_of, place_cmp, place_cmp-total, place_cmp-same}
use Rattle.am_record.specs.declared.entry.Entry.{Entry}
use Rattle.am_record.proofs.Orderings.{ge_reversed, le_not_greater, not_greater_le}
use Rattle.am_index.specs.Entries.{slot_of, first_such, entry_at, find, IsRising}
use Rattle.am_index.specs.Edits.{same_place}
use Rattle.am_index.specs.Walks.{IsFirstOf, WalkLaws}
use Rattle.am_index.proofs.Edits.{place_cmp-itself, first_such_all, first_such_passes, entry_at-hit, entry_at-miss}
use Rattle.am_index.proofs.Edits.{entry_at_place}
use Rattle.am_index.proofs.Content.{all_found}

-- ---- the first entry of a rising list that passes a test

not_below_itself : (a : Place) → place_cmp a a ≡ Less → ⊥
not_below_itself a h = let same : Equal ≡ Less = sym (place_cmp-itself a) ∙ h in cc

module _ (test : Entry → Bool) where
  -- entries below it fail the test
  earlier_fails : (es : List Entry) (x e : Entry) (part : ℕ) (key : OrderedKey) → IsRising es →
      first_such test es ≡ Some x → entry_at es part key ≡ Some e → place_cmp (place_of e) (place_of x) ≡ Less →
      test e ≡ false
  earlier_fails [] x e part key rising first there less = absurd (none-some x first)
  earlier_fails (y ∷ ys) x e part key rising first there less =
      ⊎_elim
      (λ passes.
      let is_first : y ≡ x = same_Some _ _ (sym (cond-true (test y) (Some y) (first_such test ys) passes) ∙ first) in
      absurd (⊎_elim
      (λ hit. let same : y ≡ e = same_Some _ _ (sym (entry_at-hit part key y ys hit) ∙ there) in
      not_below_itself (place_of y) (subst (λ (f : Entry). place_cmp (place_of f) (place_of y) ≡ Less) (sym same)
      (subst (λ (f : Entry). place_cmp (place_of e) (place_of f) ≡ Less) (sym is_first) less)))
      (λ miss.
      let above : place_cmp (place_of y) (place_of e) ≡ Less =
      first_such_all (λ f. place_cmp (place_of y) (place_of f) ≡ Less)
      (λ f. is_eq (place_cmp (place_of f) (part, key))) ys e rising.0 (sym (entry_at-miss part key y ys miss) ∙
      there) in
      not_below_itself (place_of y) (place_cmp-total.trans (place_of y) (place_of e) (place_of y) above
      (subst (λ (f : Entry). place_cmp (place_of e) (place_of f) ≡ Less) (sym is_first) less)))
      (cases_Bool (same_place y.part y.key part key))))
      (λ fails.
      ⊎_elim
      (λ hit. subst (λ (f : Entry). test f ≡ false) (same_Some _ _ (sym (entry_at-hit part key y ys hit) ∙ there))
      fails)
      (λ miss. earlier_fails ys x e part key rising.1 (sym (cond-false (test y) (Some y) (first_such test ys) fails) ∙
      first) (sym (entry_at-miss part key y ys miss) ∙ there) less)
      (cases_Bool (same_place y.part y.key part key)))
      (cases_Bool (test y))

  -- where there is none, all fail it
  all_fail : (es : List Entry) (e : Entry) (part : ℕ) (key : OrderedKey) → first_such test es ≡ None →
      entry_at es part key ≡ Some e → test e ≡ false
  all_fail [] e part key none there = absurd (none-some e there)
  all_fail (y ∷ ys) e part key none there =
      ⊎_elim
      (λ passes. absurd (none-some y (sym none ∙ cond-true (test y) (Some y) (first_such test ys) passes)))
      (λ fails.
      ⊎_elim
      (λ hit. subst (λ (f : Entry). test f ≡ false) (same_Some _ _ (sym (entry_at-hit part key y ys hit) ∙ there))
      fails)
      (λ miss. all_fail ys e part key (sym (cond-false (test y) (Some y) (first_such test ys) fails) ∙ none)
      (sym (entry_at-miss part key y ys miss) ∙ there))
      (cases_Bool (same_place y.part y.key part key)))
      (cases_Bool (test y))

-- it stands at its own place
pub first_stands : (test : Entry → Bool) (es : List Entry) (x : Entry) → IsRising es → first_such test es ≡ Some x →
    entry_at es x.part x.key ≡ Some x
first_stands test es x rising first = first_such_all (λ e. entry_at es e.part e.key ≡ Some e) test es x
    (all_found es rising) first

-- nothing is found at a place where no entry can stand
none_there : (es : List Entry) (part : ℕ) (key : OrderedKey) → ((e : Entry) → entry_at es part key ≡ Some e → ⊥) →
    find es part key ≡ None
none_there es part key none = ap (option_map slot_of) (by_cases (entry_at es part key) refl)
  where
    by_cases : (o : Option Entry) → entry_at es part key ≡ o → entry_at es part key ≡ None
    by_cases None h = h
    by_cases (Some e) h = absurd (none e h)

-- ---- comparisons read from the other side

gt_reversed : (o : Ordering) → is_gt (ordering_reverse o) ≡ true → o ≡ Less
gt_reversed Less h = refl
gt_reversed Equal h = absurd (false≢true h)
gt_reversed Greater h = absurd (false≢true h)

module _ (part : ℕ) (key : OrderedKey) where
  -- a place is at or above this one where this one is at or below it
  at_or_above : (a : Place) → is_ge (place_cmp a (part, key)) ≡ is_le (place_cmp (part, key) a)
  at_or_above a = ap is_ge (place_cmp-total.antisymm a (part, key)) ∙ ge_reversed (place_cmp (part, key) a)

  in_part_from : (q : OrderedKey) → is_ge (place_cmp (part, q) (part, key)) ≡ key_le key q
  in_part_from q = at_or_above (part, q) ∙ ap is_le (place_cmp-same part key q)

  pub in_part_after : (q : OrderedKey) → is_gt (place_cmp (part, q) (part, key)) ≡ is_gt
      (ordering_reverse (key_cmp key q))
  in_part_after q = ap is_gt (place_cmp-total.antisymm (part, q) (part, key)) ∙ ap (λ o. is_gt (ordering_reverse o))
      (place_cmp-same part key q)

-- ---- a walk within a partition

module _ (es : List Entry) (rising : IsRising es) (part : ℕ) (reaches : Place → Bool) (reached : OrderedKey → Type 0)
    (there : (q : OrderedKey) → reached q → reaches (part, q) ≡ true)
    (back : (q : OrderedKey) → reaches (part, q) ≡ true → reached q) where
  abbrev test : Entry → Bool
  test e = eqb e.part part && reaches (place_of e)

  passes_at : (q : OrderedKey) (e : Entry) → entry_at es part q ≡ Some e → reached q → test e ≡ true
  passes_at q e h r =
      let places : place_of e ≡ (part, q) = entry_at_place es part q e h in
      subst (λ (a : Place). (eqb a.0 part && reaches a) ≡ true) (sym places)
      (both (eqb part part) (reaches (part, q)) (eq-eqb part part refl) (there q r))
    where
      both : (a b : Bool) → a ≡ true → b ≡ true → (a && b) ≡ true
      both true b e h = h
      both false b e h = e

  first_of : (x : Entry) → first_such test es ≡ Some x → IsFirstOf es part reached x
  first_of x first =
      let parts = and_parts (eqb x.part part) (reaches (place_of x)) (first_such_passes test es x first) in
      let in_part : x.part ≡ part = eqb-true x.part part parts.0 in
      record {
        in_part = in_part;
        is_reached = back x.key (subst (λ p. reaches (p, x.key) ≡ true) in_part parts.1);
        stands = subst (λ p. entry_at es p x.key ≡ Some x) in_part (first_stands test es x rising first);
        none_before = λ q r less. none_there es part q (λ e h.
            let places : place_of e ≡ (part, q) = entry_at_place es part q e h in
            let below : place_cmp (place_of e) (place_of x) ≡ Less =
            ap (λ a. place_cmp a (place_of x)) places ∙ ap (λ p. place_cmp (part, q) (p, x.key)) in_part ∙
            place_cmp-same part q x.key ∙ less in
            true≢false (sym (passes_at q e h r) ∙ earlier_fails test es x e part q rising first h below));
      }

  none_of : first_such test es ≡ None → (q : OrderedKey) → reached q → find es part q ≡ None
  none_of none q r = none_there es part q (λ e h. true≢false
      (sym (passes_at q e h r) ∙ all_fail test es e part q none h))

-- ---- the laws

module _ (es : List Entry) (rising : IsRising es) (part : ℕ) (key : OrderedKey) where
  from_there : (q : OrderedKey) → key_le key q ≡ true → is_ge (place_cmp (part, q) (part, key)) ≡ true
  from_there q h = in_part_from part key q ∙ h

  from_back : (q : OrderedKey) → is_ge (place_cmp (part, q) (part, key)) ≡ true → key_le key q ≡ true
  from_back q h = sym (in_part_from part key q) ∙ h

  after_there : (q : OrderedKey) → key_cmp key q ≡ Less → is_gt (place_cmp (part, q) (part, key)) ≡ true
  after_there q h = in_part_after part key q ∙ ap (λ o. is_gt (ordering_reverse o)) h

  after_back : (q : OrderedKey) → is_gt (place_cmp (part, q) (part, key)) ≡ true → key_cmp key q ≡ Less
  after_back q h = gt_reversed (key_cmp key q) (sym (in_part_after part key q) ∙ h)

  any_test : (e : Entry) → is_ge (place_cmp (place_of e) (part, key)) ≡ is_le (place_cmp (part, key) (place_of e))
  any_test e = at_or_above part key (place_of e)

  passes_any : (p : ℕ) (q : OrderedKey) (e : Entry) → entry_at es p q ≡ Some e →
      place_cmp (part, key) (p, q) ≢ Greater → is_ge (place_cmp (place_of e) (part, key)) ≡ true
  passes_any p q e h n = subst (λ (a : Place). is_ge (place_cmp a (part, key)) ≡ true) (sym (entry_at_place es p q e h))
      (at_or_above part key (p, q) ∙ not_greater_le (place_cmp (part, key) (p, q)) n)

-- what the walks over a rising list find
pub walk_laws : (es : List Entry) → IsRising es → WalkLaws es
walk_laws es rising = record {
  from_some = λ part key x h. first_of es rising part (λ a. is_ge (place_cmp a (part, key))) (λ q. key_le key q ≡ true)
      (from_there es rising part key) (from_back es rising part key) x h;
  from_none = λ part key h. none_of es rising part (λ a. is_ge (place_cmp a (part, key))) (λ q. key_le key q ≡ true)
      (from_there es rising part key) (from_back es rising part key) h;
  after_some = λ part key x h. first_of es rising part (λ a. is_gt (place_cmp a (part, key)))
      (λ q. key_cmp key q ≡ Less) (after_there es rising part key) (after_back es rising part key) x h;
  after_none = λ part key h. none_of es rising part (λ a. is_gt (place_cmp a (part, key))) (λ q. key_cmp key q ≡ Less)
      (after_there es rising part key) (after_back es rising part key) h;
  any_stands = λ part key x h. first_stands (λ e. is_ge (place_cmp (place_of e) (part, key))) es x rising h;
  any_reached = λ part key x h. le_not_greater (place_cmp (part, key) (place_of x))
      (sym (any_test es rising part key x) ∙ first_such_passes (λ e. is_ge (place_cmp (place_of e) (part, key))) es x
      h);
  any_none_before = λ part key x h p q n less. none_there es p q (λ e there.
      let below : place_cmp (place_of e) (place_of x) ≡ Less =
      ap (λ a. place_cmp a (place_of x)) (entry_at_place es p q e there) ∙ less in
      true≢false (sym (passes_any es rising part key p q e there n) ∙
      earlier_fails (λ f. is_ge (place_cmp (place_of f) (part, key))) es x e p q rising h there below));
  any_none = λ part key h p q n. none_there es p q
      (λ e there. true≢false (sym (passes_any es rising part key p q e there n) ∙
      all_fail (λ f. is_ge (place_cmp (place_of f) (part, key))) es e p q h there));
}
