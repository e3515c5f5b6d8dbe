-- The front of a range, run by run.
use Rattle.std.proofs.Common.{◌≡◌, ◌≢◌, ℕ, zero, suc, ◌+◌, ◌^◌, ◌<◌, ◌≤◌, List, [], ◌∷◌, length, take, filter}
use Rattle.std.proofs.Common.{slice_get, get_or, arith}
use Rattle.std.proofs.Common.{Bool, true, false, cond, Option, Some, None, inl, inr, ⊎_elim, refl, sym, ap, ◌∙◌, subst}
use Rattle.std.specs.Prelude.{nat_le, ◌==◌, take_while, unwrap_or, IsSome, IfSome}
use Rattle.std.proofs.lemmas.Bool.{cases_Bool, both_ways, and_parts, and_from, false_from_ne_true, eqb-true, eq-eqb}
use Rattle.std.proofs.lemmas.Bool.{cases_lt, le-leb, leb-true, and_right, cond-false, false≢true}
use Rattle.std.proofs.lemmas.Option.{none-some, same_Some, slice_get_within, slice_get_past, slice_get_read}
use Rattle.std.proofs.lemmas.Option.{get_or_from_slice_get}
use Rattle.std.proofs.lemmas.List.Sums.{take_while-cons}
use Rattle.std.specs.declared.cmp.Ordering.TheVariants.{Less}
use Rattle.std.specs.Ordering.{is_le, ordering_reverse}
use Rattle.std.specs.List.{AllByRecursion}
use Rattle.am_record.specs.OrderedKey.{OrderedKey, key_cmp, key_cmp-total}
use Rattle.am_record.specs.Interval.{Interval, key_le, key_le-itself, within}
use Rattle.am_record.specs.EntryOrder.{place_of, place_cmp}
use Rattle.am_record.specs.declared.entry.Entry.{Entry}
use Rattle.am_record.proofs.KeyOrder.{key_le_trans, key_le_total}
use Rattle.am_record.proofs.Lists.{AllByRecursion-map, AllByRecursion-always, AllByRecursion-at, filter-yes, filter-no}
use Rattle.am_index.specs.Entries.{first_such, all_from, IsRising}
use Rattle.am_index.proofs.Lists.{first_such_none}
use Rattle.am_index.proofs.Edits.{none_such}
use Rattle.am_index_parts.specs.Partitions.{AreWellFormed, AreEmpty, AreEmptyFrom}
use Rattle.am_law_effect.specs.MergeAnswers.{candidates}
use Rattle.am_law_effect.proofs.Lists.{rising-filter}
use Rattle.am_store_merge.specs.Walks.{in_part, in_parts_from}
use Rattle.am_store_merge.specs.Fronts.{IsSixteenth, IsFrontEnd, IsNextInRuns, IsFrontBefore, FrontBefore}
use Rattle.am_store_merge.proofs.Firsts.{All-zip, first_head, head_of, no_head, none_under}
use Rattle.am_store_merge.proofs.Walks.{above_range, same_part}
use Rattle.am_store_merge.proofs.PassedRuns.{none_in}
use Rattle.am_store_merge.proofs.Stretches.{is_read, read_by_key, read_front}

-- ---- lists

taken : {X : Type 0} (n i : ℕ) (xs : List X) → i < n → slice_get (take n xs) i ≡ slice_get xs i
taken zero i xs lt = absurd (omega arith)
taken (suc n) i [] lt = refl
taken (suc n) zero (x ∷ xs) lt = refl
taken (suc n) (suc i) (x ∷ xs) lt = taken n i xs (omega arith)

at_place : {X : Type 0} (P : X → Type 0) (xs : List X) (i : ℕ) (x : X) → AllByRecursion P xs →
    slice_get xs i ≡ Some x → P x
at_place P xs i x all there =
    subst P (get_or_from_slice_get xs i x x there) (AllByRecursion-at P xs i x all (slice_get_within xs i x there))

units : (es : List Entry) → AllByRecursion (λ e. Unit {0}) es
units es = AllByRecursion-always (λ e. Unit {0}) (λ e. tt) es

passed : (P : Entry → Type 0) (test : Entry → Bool) (es : List Entry) → AllByRecursion P es →
    AllByRecursion (λ e. P e × (test e ≡ true)) (filter test es)
passed P test [] all = tt
passed P test (e ∷ es) all = ⊎_elim
    (λ yes. subst (AllByRecursion (λ f. P f × (test f ≡ true))) (sym (filter-yes test e es yes))
    ((all.0, yes), passed P test es all.1))
    (λ no. subst (AllByRecursion (λ f. P f × (test f ≡ true))) (sym (filter-no test e es no)) (passed P test es all.1))
    (cases_Bool (test e))

-- ---- keys

-- what is at or above the range's first key and not in the range is above all of it
beyond : (range : Interval) (k end : OrderedKey) → within range k ≡ false → key_le range.lo k ≡ true →
    key_le end range.hi ≡ true → key_le end k ≡ true
beyond range k end out from inside = ⊎_elim
    (λ up. key_le_trans end range.hi k inside up)
    (λ down. absurd (both_ways (key_le k range.hi) (above_range range k out from) down))
    (key_le_total range.hi k)

not_down : (a b end : OrderedKey) → key_cmp a b ≡ Less → key_le end a ≡ true → key_le b end ≡ false
not_down a b end less le = false_from_ne_true (key_le b end)
    (λ down. both_ways (key_le b a) (ap is_le (key_cmp-total.antisymm b a ∙ ap ordering_reverse less))
    (key_le_trans b end a down le))

-- ---- the sixteenth entry of a run

-- what is said of each entry is said of one that stands in what is read of a run
stands : (P : Entry → Type 0) (es : List Entry) (rise : IsRising es) (run : ℕ) (from : Interval) (i : ℕ) (e : Entry) →
    AllByRecursion P es → slice_get (all_from es run from.lo) i ≡ Some e →
    P e × (e.part ≡ run) × (key_le from.lo e.key ≡ true)
stands P es rise run from i e all there =
    let at = at_place (λ f. P f × (is_read es rise from run f ≡ true)) (all_from es run from.lo) i e
    (passed P (is_read es rise from run) es all) there in
    let parts = and_parts (e.part == run) _ at.1 in
    (at.0, eqb-true e.part run parts.0, sym (read_by_key es rise from run e parts.0) ∙ parts.1)

sixteenth_stands : (P : Entry → Type 0) (es : List Entry) (rise : IsRising es) (range : Interval) (e : Entry) →
    AllByRecursion P es → IsSixteenth es range.lo e → P e × (key_le range.lo e.key ≡ true)
sixteenth_stands P es rise range e all is =
    let at = stands P es rise e.part range 15 e all is.counted in (at.0, at.2)

-- ---- from run to run

-- partitions without an entry of the range change nothing
pub goes_on : (es : List Entry) (rise : IsRising es) (range : Interval) (from to : ℕ) (front : Option Interval) →
    AllByRecursion (λ e. from ≤ e.part → e.part < to → within range e.key ≡ false) es →
    FrontBefore es range from front → FrontBefore es range to front
goes_on es rise range from to None none before =
    AllByRecursion-map
    (λ e. (0 < e.part → e.part < from → within range e.key ≡ false) ×
    (from ≤ e.part → e.part < to → within range e.key ≡ false))
    (λ e. 0 < e.part → e.part < to → within range e.key ≡ false)
    (λ e h some less. ⊎_elim (λ (below : e.part < from). h.0 some below) (λ (on : from ≤ e.part). h.1 on less)
    (cases_lt e.part from)) es
    (All-zip _ _ es before none)
goes_on es rise range from to (Some front) none before = record {
  begins = before.begins;
  ends = before.ends;
  inside = before.inside;
  first = λ e is less. ⊎_elim
      (λ (below : e.part < from). before.first e is below)
      (λ (on : from ≤ e.part).
      let at = sixteenth_stands _ es rise range e none is in
      beyond range e.key front.hi (at.0 on less) at.1 before.inside)
      (cases_lt e.part from);
  some = before.some;
}

pub goes_to : (es : List Entry) (rise : IsRising es) (range : Interval) (from to : ℕ) (front : Option Interval) →
    AreEmpty es from to → FrontBefore es range from front → FrontBefore es range to front
goes_to es rise range from to front none = goes_on es rise range from to front
    (AllByRecursion-map (λ e. (from ≤ e.part) × (e.part < to) → ⊥)
    (λ e. from ≤ e.part → e.part < to → within range e.key ≡ false) (λ e h on less. absurd (h (on, less))) es
    (none_in es (λ part. (from ≤ part) × (part < to)) (λ part key between. none.none part key between.0 between.1)))

-- a run without an entry of the range doesn't either
pub goes_past : (es : List Entry) (rise : IsRising es) (range : Interval) (run : ℕ) (front : Option Interval) →
    first_such (in_part run range) es ≡ None → FrontBefore es range run front → FrontBefore es range (run + 1) front
goes_past es rise range run front none = goes_on es rise range run (run + 1) front
    (AllByRecursion-map (λ e. in_part run range e ≡ false)
    (λ e. run ≤ e.part → e.part < run + 1 → within range e.key ≡ false)
    (λ e h on less. false_from_ne_true (within range e.key) (λ yes. both_ways (in_part run range e) h
    (and_from (e.part == run) (within range e.key) (eq-eqb e.part run (omega arith)) yes))) es
    (none_such (in_part run range) es none))

-- one with an entry of it has a front
pub begins_at : (es : List Entry) (rise : IsRising es) (range : Interval) (run : ℕ) (front : Option Interval)
    (begun : Interval) → 0 < run → begun ≡ unwrap_or front range → first_such (in_part run range) es ≢ None →
    FrontBefore es range run front → IsFrontBefore es range run begun
begins_at es rise range run (Some front) begun is_run is found before = subst (IsFrontBefore es range run) (sym is)
    before
begins_at es rise range run None begun is_run is found before = subst (IsFrontBefore es range run) (sym is) (record {
  begins = refl;
  ends = inl refl;
  inside = key_le-itself range.hi;
  first = λ e of less.
      let at = sixteenth_stands _ es rise range e before of in
      beyond range e.key range.hi (at.0 of.in_run less) at.1 (key_le-itself range.hi);
  some = λ none. found (none_under (in_part run range) (in_parts_from 1 range) es
      (AllByRecursion-always (λ e. in_part run range e ≡ true → in_parts_from 1 range e ≡ true)
      (λ e t. let p = and_parts (e.part == run) (within range e.key) t in
      let at : e.part ≡ run = eqb-true e.part run p.0 in
      and_from (nat_le 1 e.part) (within range e.key) (le-leb 1 e.part (omega arith)) p.1) es) none);
})

-- and its sixteenth may cut that
module _ (es : List Entry) (rise : IsRising es) (range : Interval) (run : ℕ) (is_run : 0 < run) (front : Interval)
    (before : IsFrontBefore es range run front) (batch : List Entry)
    (read : batch ≡ take 16 (all_from es run range.lo)) where
  counted_in : slice_get (all_from es run range.lo) 15 ≡ slice_get batch 15
  counted_in = sym (ap (λ l. slice_get l 15) read ∙ taken 16 15 (all_from es run range.lo) (omega arith))

  -- by what is known of the run's sixteenth, where there is one
  with_run : (key : OrderedKey) → IsFrontEnd es range key → key_le key front.hi ≡ true →
      ((e : Entry) → slice_get (all_from es run range.lo) 15 ≡ Some e → key_le key e.key ≡ true) →
      IsFrontBefore es range (run + 1) (record { lo = front.lo; hi = key })
  with_run key ends low here = record {
    begins = before.begins;
    ends = ends;
    inside = key_le_trans key front.hi range.hi low before.inside;
    first = λ e is less. ⊎_elim
        (λ (below : e.part < run). key_le_trans key front.hi e.key low (before.first e is below))
        (λ (on : run ≤ e.part).
        let at : e.part ≡ run = omega arith in
        here e (subst (λ part. slice_get (all_from es part range.lo) 15 ≡ Some e) at is.counted))
        (cases_lt e.part run);
    some = before.some;
  }

  pub not_so_many : length batch ≤ 15 → IsFrontBefore es range (run + 1) front
  not_so_many few = with_run front.hi before.ends (key_le-itself front.hi)
      (λ e is. absurd (none-some e (sym (slice_get_past batch 15 few) ∙ sym counted_in ∙ is)))

  module _ (last : Entry) (many : 15 < length batch) (at : last ≡ get_or batch 15 last) where
    stands_there : slice_get (all_from es run range.lo) 15 ≡ Some last
    stands_there = counted_in ∙ slice_get_read batch (length batch) 15 last refl many at

    it_is : (e : Entry) → slice_get (all_from es run range.lo) 15 ≡ Some e → last ≡ e
    it_is e is = same_Some last e (sym stands_there ∙ is)

    where_it_stands : (last.part ≡ run) × (key_le range.lo last.key ≡ true)
    where_it_stands =
        let it = stands (λ e. Unit {0}) es rise run range 15 last (units es) stands_there in (it.1, it.2)

    pub past_the_front : within front last.key ≡ false → IsFrontBefore es range (run + 1) front
    past_the_front out = with_run front.hi before.ends (key_le-itself front.hi)
        (λ e is. subst (λ f. key_le front.hi f.key ≡ true) (it_is e is)
        (beyond front last.key front.hi out
        (subst (λ lo. key_le lo last.key ≡ true) (sym before.begins) where_it_stands.1) (key_le-itself front.hi)))

    ends_there : within front last.key ≡ true →
        IsFrontBefore es range (run + 1) (record { lo = front.lo; hi = last.key })
    ends_there inside = with_run last.key
        (inr (
          last,
          record {
            in_run = subst (λ part. 0 < part) (sym where_it_stands.0) is_run;
            counted = subst (λ part. slice_get (all_from es part range.lo) 15 ≡ Some last) (sym where_it_stands.0)
                stands_there;
          },
          refl,
        ))
        (and_parts (key_le front.lo last.key) (key_le last.key front.hi) inside).1
        (λ e is. subst (λ f. key_le last.key f.key ≡ true) (it_is e is) (key_le-itself last.key))

    -- the range that is made of its key
    pub has_front : (o : Option Interval) (lo : OrderedKey) → lo ≡ front.lo → within front last.key ≡ true →
        (key_le lo last.key ≡ true → IsSome o) → IfSome o (λ r. r ≡ record { lo = lo; hi = last.key }) →
        FrontBefore es range (run + 1) o
    has_front None lo same inside ordered value =
        absurd (false≢true (ordered (subst (λ k. key_le k last.key ≡ true) (sym same)
        (and_parts (key_le front.lo last.key) (key_le last.key front.hi) inside).0)))
    has_front (Some r) lo same inside ordered value =
        subst (IsFrontBefore es range (run + 1))
        (sym (value ∙ ap (λ k. record { lo = k; hi = last.key }) same)) (ends_there inside)

-- ---- few entries of each run

stops : (p : Entry → Bool) (xs : List Entry) → AllByRecursion (λ e. p e ≡ false) xs → take_while p xs ≡ []
stops p [] none = refl
stops p (x ∷ xs) none = take_while-cons p x xs ∙ cond-false (p x) (x ∷ take_while p xs) [] none.0

one_more : (b : Bool) (x : Entry) (xs : List Entry) (n : ℕ) → length xs ≤ n → length (cond b (x ∷ xs) []) ≤ suc n
one_more true x xs n few = omega arith
one_more false x xs n few = omega arith

-- of what is read of a run, no more than n + 1 lie in a range that ends at or below the one at n
few_of : (front : Interval) (run n : ℕ) (xs : List Entry) → IsRising xs → AllByRecursion (λ e. e.part ≡ run) xs →
    ((e : Entry) → slice_get xs n ≡ Some e → key_le front.hi e.key ≡ true) →
    length (take_while (λ e. within front e.key) xs) ≤ suc n
few_of front run n [] rise parts first = omega arith
few_of front run zero (x ∷ xs) rise parts first =
    let none : take_while (λ e. within front e.key) xs ≡ [] = stops (λ e. within front e.key) xs
    (AllByRecursion-map (λ f. (place_cmp (place_of x) (place_of f) ≡ Less) × (f.part ≡ run))
    (λ f. within front f.key ≡ false)
    (λ f h. and_right (key_le front.lo f.key) (key_le f.key front.hi)
    (not_down x.key f.key front.hi (sym (same_part x f (parts.0 ∙ sym h.1)) ∙ h.0) (first x refl)))
    xs (All-zip _ _ xs rise.0 parts.1)) in
    subst (λ l. length l ≤ 1) (sym (take_while-cons (λ e. within front e.key) x xs))
    (one_more (within front x.key) x (take_while (λ e. within front e.key) xs) 0 (omega (arith, ap length none)))
few_of front run (suc n) (x ∷ xs) rise parts first =
    subst (λ l. length l ≤ suc (suc n)) (sym (take_while-cons (λ e. within front e.key) x xs))
    (one_more (within front x.key) x (take_while (λ e. within front e.key) xs) (suc n)
    (few_of front run n xs rise.1 parts.1 (λ e at. first e at)))

-- ---- the front by all runs

pub goes_far : (es : List Entry) (rise : IsRising es) (range : Interval) (from : ℕ) (front : Option Interval) →
    AreEmptyFrom es from → FrontBefore es range from front → FrontBefore es range (2 ^ 32) front
goes_far es rise range from front none = goes_on es rise range from (2 ^ 32) front
    (AllByRecursion-map (λ e. from ≤ e.part → ⊥)
    (λ e. from ≤ e.part → e.part < 2 ^ 32 → within range e.key ≡ false) (λ e h on less. absurd (h on)) es
    (none_in es (λ part. from ≤ part) (λ part key on. none.none part key on)))

pub is_next : (es : List Entry) (sound : AreWellFormed es) (range : Interval) (to : ℕ) (front : Option Interval) →
    2 ^ 32 ≤ to → FrontBefore es range to front → IsNextInRuns es range front
is_next es sound range to None over before =
    no_head (candidates es range) (sym (first_head (in_parts_from 1 range) es) ∙
    first_such_none (in_parts_from 1 range) es
    (AllByRecursion-map
    (λ e. (0 < e.part → e.part < to → within range e.key ≡ false) × (e.part < 2 ^ 32))
    (λ e. in_parts_from 1 range e ≡ false)
    (λ e h. false_from_ne_true (in_parts_from 1 range e) (λ t.
    let p = and_parts (nat_le 1 e.part) (within range e.key) t in
    let some : 1 ≤ e.part = leb-true 1 e.part p.0 in
    both_ways (within range e.key) (h.0 (omega arith) (omega (arith, over, h.1))) p.1))
    es (All-zip _ _ es before sound.fits)))
is_next es sound range to (Some front) over before = (
  λ none. before.some (first_head (in_parts_from 1 range) es ∙ ap head_of none),
  record {
    begins = before.begins;
    ends = before.ends;
    inside = before.inside;
    first = λ e is.
        let at = sixteenth_stands (λ f. f.part < 2 ^ 32) es sound.rising range e sound.fits is in
        before.first e is (omega (arith, over, at.0));
    few = λ run is_run. subst (λ l. length l ≤ 16) (read_front es sound.rising front run)
        (few_of front run 15 (all_from es run front.lo)
        (rising-filter (is_read es sound.rising front run) es sound.rising)
        (AllByRecursion-map (λ e. Unit {0} × (is_read es sound.rising front run e ≡ true)) (λ e. e.part ≡ run)
        (λ e h. eqb-true e.part run (and_parts (e.part == run) _ h.1).0) (all_from es run front.lo)
        (passed (λ e. Unit {0}) (is_read es sound.rising front run) es (units es)))
        (λ e at.
        let here : slice_get (all_from es run range.lo) 15 ≡ Some e =
        subst (λ lo. slice_get (all_from es run lo) 15 ≡ Some e) before.begins at in
        let it = stands (λ f. f.part < 2 ^ 32) es sound.rising run range 15 e sound.fits here in
        before.first e (record {
          in_run = subst (λ part. 0 < part) (sym it.1) is_run;
          counted = subst (λ part. slice_get (all_from es part range.lo) 15 ≡ Some e) (sym it.1) here;
        }) (omega (arith, over, it.0))));
  },
)
