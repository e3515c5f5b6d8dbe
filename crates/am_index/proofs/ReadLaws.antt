-- What is read on in a rising list, in terms of `after` and of what stands at each place.
use Rattle.std.proofs.Common.{◌≡◌, ℕ, Bool, true, false, ◌&&◌, eqb, cond, List, [], ◌∷◌, ◌++◌, Some, None}
use Rattle.std.proofs.Common.{if◌then◌else◌, refl, sym, ap, ◌∙◌, subst, ⊎_elim, ◌≢◌}
use Rattle.std.proofs.lemmas.Bool.{cases_Bool, cond-true, cond-false, and_parts, eqb-true, and_right, both_ways}
use Rattle.std.proofs.lemmas.Option.{none-some, same_Some}
use Rattle.std.specs.List.{AllByRecursion, filter, slice_get}
use Rattle.std.specs.declared.cmp.Ordering.{Ordering}
use Rattle.std.specs.declared.cmp.Ordering.TheVariants.{Less, Equal, Greater}
use Rattle.std.specs.Ordering.{is_lt, is_gt, is_ge}
use Rattle.std.specs.Option.{option_map}
use Rattle.am_record.specs.OrderedKey.{OrderedKey, key_cmp}
use Rattle.am_record.specs.EntryOrder.{Place, place_of, place_cmp}
use Rattle.am_record.specs.declared.entry.Entry.{Entry}
use Rattle.am_record.proofs.Lists.{AllByRecursion-map, tails}
use Rattle.am_record.proofs.PlaceOrder.{turned_less}
use Rattle.am_record.proofs.Orderings.{gt_reversed}
use Rattle.am_index.specs.Entries.{slot_of, first_such, entry_at, find, after, all_after, IsRising}
use Rattle.am_index.specs.Edits.{same_place}
use Rattle.am_index.specs.Walks.{ReadLaws}
use Rattle.am_index.proofs.Lists.{rising_above}
use Rattle.am_index.proofs.Batches.{above_not_less, all_after_front, all_reached_front}
use Rattle.am_index.proofs.Edits.{first_such_all, first_such_passes, entry_at-hit, entry_at-miss, one_place}
use Rattle.am_index.proofs.Edits.{place_cmp-itself}
use Rattle.am_index.proofs.WalkLaws.{in_part_after}

-- ---- the entries that pass a test

module _ (test : Entry → Bool) where
  -- the first of them
  first_is : (es : List Entry) → first_such test es ≡ slice_get (filter test es) 0
  first_is [] = refl
  first_is (y ∷ ys) =
      elim (test y) as (λ b. (if b then Some y else first_such test ys) ≡ slice_get
      (cond b (y ∷ filter test ys) (filter test ys)) 0) [ true ↦ refl | false ↦ first_is ys ]

  all_that_pass : (P : Entry → Type 0) (es : List Entry) → AllByRecursion P es → AllByRecursion P (filter test es)
  all_that_pass P [] a = tt
  all_that_pass P (y ∷ ys) a =
      elim (test y) as (λ b. AllByRecursion P (cond b (y ∷ filter test ys) (filter test ys)))
      [ true ↦ (a.0, all_that_pass P ys a.1) | false ↦ all_that_pass P ys a.1 ]

  pub pass_rising : (es : List Entry) → IsRising es → IsRising (filter test es)
  pass_rising [] rising = tt
  pass_rising (y ∷ ys) rising =
      elim (test y) as (λ b. IsRising (cond b (y ∷ filter test ys) (filter test ys))) [
        | true ↦ (all_that_pass (λ f. place_cmp (place_of y) (place_of f) ≡ Less) ys rising.0, pass_rising ys rising.1)
        | false ↦ pass_rising ys rising.1
      ]

-- of a test of places, what stands among those that pass it
module _ (passes : Place → Bool) (part : ℕ) (key : OrderedKey) where
  abbrev test : Entry → Bool
  test e = passes (place_of e)

  abbrev kept : List Entry → List Entry
  kept es = filter test es

  same_test : (y : Entry) → same_place y.part y.key part key ≡ true → test y ≡ passes (part, key)
  same_test y hit = ap passes (one_place (place_of y) (part, key) hit)

  entry_kept : (es : List Entry) → passes (part, key) ≡ true → entry_at (kept es) part key ≡ entry_at es part key
  entry_kept [] passed = refl
  entry_kept (y ∷ ys) passed =
      ⊎_elim
      (λ hit.
      ap (λ l. entry_at l part key) (cond-true (test y) (y ∷ kept ys) (kept ys) (same_test y hit ∙ passed))
      ∙ entry_at-hit part key y (kept ys) hit ∙ sym (entry_at-hit part key y ys hit))
      (λ miss.
      elim (test y) as (λ b. entry_at (cond b (y ∷ kept ys) (kept ys)) part key ≡ entry_at ys part key)
      [ true ↦ entry_at-miss part key y (kept ys) miss ∙ entry_kept ys passed | false ↦ entry_kept ys passed ] ∙
      sym (entry_at-miss part key y ys miss))
      (cases_Bool (same_place y.part y.key part key))

  entry_dropped : (es : List Entry) → passes (part, key) ≡ false → entry_at (kept es) part key ≡ None
  entry_dropped [] failed = refl
  entry_dropped (y ∷ ys) failed =
      ⊎_elim
      (λ hit. ap (λ l. entry_at l part key) (cond-false (test y) (y ∷ kept ys) (kept ys) (same_test y hit ∙ failed)) ∙
      entry_dropped ys failed)
      (λ miss.
      elim (test y) as (λ b. entry_at (cond b (y ∷ kept ys) (kept ys)) part key ≡ None)
      [ true ↦ entry_at-miss part key y (kept ys) miss ∙ entry_dropped ys failed | false ↦ entry_dropped ys failed ])
      (cases_Bool (same_place y.part y.key part key))

  pub kept_at : (es : List Entry) → find (kept es) part key ≡ (if passes (part, key) then find es part key else None)
  kept_at es =
      ⊎_elim
      (λ passed. ap (option_map slot_of) (entry_kept es passed) ∙
      sym (cond-true (passes (part, key)) (find es part key) None passed))
      (λ failed. ap (option_map slot_of) (entry_dropped es failed) ∙
      sym (cond-false (passes (part, key)) (find es part key) None failed))
      (cases_Bool (passes (part, key)))

-- ---- reading on

none_at_front : (xs : List Entry) → slice_get xs 0 ≡ None → xs ≡ []
none_at_front [] h = refl
none_at_front (x ∷ xs) h = absurd (none-some x (sym h))

not_after_itself : (part : ℕ) (y : Entry) → y.part ≡ part →
    (eqb y.part part && is_gt (place_cmp (place_of y) (part, y.key))) ≡ false
not_after_itself part y in_part =
    let at_itself : place_cmp (place_of y) (part, y.key) ≡ Equal = ap (λ p. place_cmp (place_of y) (p, y.key))
    (sym in_part) ∙ place_cmp-itself (place_of y) in
    and_right (eqb y.part part) (is_gt (place_cmp (place_of y) (part, y.key))) (ap is_gt at_itself)

-- the entries of the partition above the key, or also the one at it
module _ (part : ℕ) (reached : Ordering → Bool) (over : reached Greater ≡ true) (under : reached Less ≡ false) where
  abbrev is_next : OrderedKey → Entry → Bool
  is_next key e = eqb e.part part && reached (place_cmp (place_of e) (part, key))

  none_next : (es : List Entry) (key : OrderedKey) → first_such (is_next key) es ≡ None → filter (is_next key) es ≡ []
  none_next es key none = none_at_front (filter (is_next key) es) (sym (first_is (is_next key) es) ∙ none)

  -- an entry below the first one that is read is not above it
  below_first : (es : List Entry) (y x : Entry) (key : OrderedKey) →
      AllByRecursion (λ f. place_cmp (place_of y) (place_of f) ≡ Less) es → first_such (is_next key) es ≡ Some x
      → (eqb y.part part && is_gt (place_cmp (place_of y) (part, x.key))) ≡ false
  below_first es y x key below first =
      let in_part : x.part ≡ part = eqb-true x.part part
      (and_parts (eqb x.part part) (reached (place_cmp (place_of x) (part, key)))
      (first_such_passes (is_next key) es x first)).0 in
      let less : place_cmp (place_of y) (part, x.key) ≡ Less =
      ap (λ p. place_cmp (place_of y) (p, x.key)) (sym in_part) ∙
      first_such_all (λ f. place_cmp (place_of y) (place_of f) ≡ Less) (is_next key) es x below first in
      and_right (eqb y.part part) (is_gt (place_cmp (place_of y) (part, x.key))) (ap is_gt less)

  one_next : (es : List Entry) → IsRising es → (key : OrderedKey) (x : Entry) → first_such (is_next key) es ≡ Some x →
      filter (is_next key) es ≡ x ∷ all_after es part x.key
  one_next [] rising key x first = absurd (none-some x first)
  one_next (y ∷ ys) rising key x first =
      ⊎_elim
      (λ passes.
      let parts = and_parts (eqb y.part part) (reached (place_cmp (place_of y) (part, key))) passes in
      let in_part : y.part ≡ part = eqb-true y.part part parts.0 in
      let from : place_cmp (place_of y) (part, key) ≢ Less =
      λ less. both_ways (reached (place_cmp (place_of y) (part, key))) (ap reached less ∙ under) parts.1 in
      let same : y ≡ x = same_Some _ _ (sym (cond-true (is_next key y) (Some y) (first_such (is_next key) ys) passes) ∙
      first) in
      let others_above = rising_above (part, key) y ys from rising in
      let all_reached = AllByRecursion-map (λ f. place_cmp (place_of f) (part, key) ≡ Greater)
      (λ f. reached (place_cmp (place_of f) (part, key)) ≡ true) (λ f h. ap reached h ∙ over) ys others_above in
      let not_below = AllByRecursion-map (λ f. place_cmp (place_of f) (part, key) ≡ Greater)
      (λ f. place_cmp (place_of f) (part, key) ≢ Less)
      (λ f h. above_not_less (place_cmp (place_of f) (part, key)) h) ys others_above in
      let from_here : all_after (y ∷ ys) part y.key ≡ all_after ys part y.key =
      cond-false (eqb y.part part && is_gt (place_cmp (place_of y) (part, y.key))) (y ∷ all_after ys part y.key)
      (all_after ys part y.key) (not_after_itself part y in_part) in
      let above_here = subst (λ p. AllByRecursion (λ f. place_cmp (place_of f) (p, y.key) ≡ Greater) ys) in_part
      (AllByRecursion-map (λ f. place_cmp (place_of y) (place_of f) ≡ Less)
      (λ f. place_cmp (place_of f) (place_of y) ≡ Greater) (λ f h. turned_less (place_of y) (place_of f) h) ys
      rising.0) in
      cond-true (is_next key y) (y ∷ filter (is_next key) ys) (filter (is_next key) ys) passes
      ∙ ap (λ l. y ∷ l) (sym (all_reached_front part key reached ys rising.1 all_reached not_below) ∙
      all_after_front part y.key ys rising.1 above_here ∙ sym from_here)
      ∙ ap (λ (z : Entry). z ∷ all_after (y ∷ ys) part z.key) same)
      (λ fails.
      let later : first_such (is_next key) ys ≡ Some x =
      sym (cond-false (is_next key y) (Some y) (first_such (is_next key) ys) fails) ∙ first in
      cond-false (is_next key y) (y ∷ filter (is_next key) ys) (filter (is_next key) ys) fails
      ∙ one_next ys rising.1 key x later
      ∙ ap (λ l. x ∷ l) (sym (cond-false (eqb y.part part && is_gt (place_cmp (place_of y) (part, x.key)))
      (y ∷ all_after ys part x.key) (all_after ys part x.key) (below_first ys y x key rising.0 later))))
      (cases_Bool (is_next key y))

module _ (part : ℕ) where
  abbrev is_after : OrderedKey → Entry → Bool
  is_after key e = eqb e.part part && is_gt (place_cmp (place_of e) (part, key))

  after_first : (es : List Entry) (key : OrderedKey) → after es part key ≡ slice_get (all_after es part key) 0
  after_first es key = first_is (is_after key) es

  one_more : (es : List Entry) → IsRising es → (key : OrderedKey) (x : Entry) → after es part key ≡ Some x →
      all_after es part key ≡ x ∷ all_after es part x.key
  one_more = one_next part is_gt refl refl

  goes_on : (es : List Entry) → IsRising es → (key : OrderedKey) (xs : List Entry) (x : Entry) (ys : List Entry) →
      all_after es part key ≡ xs ++ x ∷ ys → all_after es part x.key ≡ ys
  goes_on es rising key [] x ys h = tails (sym (one_more es rising key x
      (after_first es key ∙ ap (λ l. slice_get l 0) h)) ∙ h)
  goes_on es rising key (z ∷ xs) x ys h =
      let from_z = tails (sym (one_more es rising key z (after_first es key ∙ ap (λ l. slice_get l 0) h)) ∙ h) in
      goes_on es rising z.key xs x ys from_z

  read_at : (es : List Entry) (key : OrderedKey) (p : ℕ) (q : OrderedKey) →
      find (all_after es part key) p q ≡ (if eqb p part && is_lt (key_cmp key q) then find es p q else None)
  read_at es key p q =
      kept_at (λ a. eqb a.0 part && is_gt (place_cmp a (part, key))) p q es
      ∙ ap (λ b. if b then find es p q else None) (in_keys (eqb p part) refl)
    where
      in_keys : (b : Bool) → eqb p part ≡ b → (b && is_gt (place_cmp (p, q) (part, key))) ≡ (b && is_lt (key_cmp key q))
      in_keys false h = refl
      in_keys true h = ap (λ a. is_gt (place_cmp (a, q) (part, key))) (eqb-true p part h) ∙ in_part_after part key q ∙
          gt_reversed (key_cmp key q)

pub read_laws : (es : List Entry) → IsRising es → ReadLaws es
read_laws es rising = record {
  from_none = λ part key h. none_next part is_ge refl refl es key h;
  from_some = λ part key x h. one_next part is_ge refl refl es rising key x h;
  none = λ part key h. none_next part is_gt refl refl es key h;
  some = λ part key x h. one_more part es rising key x h;
  goes_on = λ part key xs x ys h. goes_on part es rising key xs x ys h;
  rises = λ part key. pass_rising (is_after part key) es rising;
  stands = λ part key p q. read_at part es key p q;
}
