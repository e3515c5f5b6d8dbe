-- What is read of a run, and the first candidates of a range.
use Rattle.std.proofs.Common.{◌≡◌, ℕ, zero, suc, ◌≤◌, List, [], ◌∷◌, length, take, filter, Bool, true, false}
use Rattle.std.proofs.Common.{cond, slice_get, Some, None}
use Rattle.std.specs.Bool.{then_some}
use Rattle.std.proofs.lemmas.Option.{none-some, same_Some}
use Rattle.std.proofs.Common.{refl, sym, ap, ◌∙◌, subst, ⊎_elim, arith, min}
use Rattle.std.specs.Prelude.{nat_le, ◌==◌, ◌&&◌, is_none, take_while}
use Rattle.std.specs.declared.cmp.Ordering.TheVariants.{Less}
use Rattle.std.specs.Ordering.{is_le, is_ge}
use Rattle.std.specs.List.{AllByRecursion}
use Rattle.std.proofs.lemmas.Bool.{cases_Bool, cond-true, cond-false, and_parts, and_from, and_left, and_right}
use Rattle.std.proofs.lemmas.Bool.{leb-true}
use Rattle.std.proofs.lemmas.Bool.{le-leb, eqb-true, eq-eqb, both_ways, false_from_ne_true}
use Rattle.std.proofs.lemmas.List.{length-take, take-take}
use Rattle.std.proofs.lemmas.List.Folds.{length-prefix_len}
use Rattle.std.proofs.lemmas.List.Sums.{take_while-cons}
use Rattle.am_record.specs.Interval.{Interval, key_le, within}
use Rattle.am_record.specs.EntryOrder.{place_of, place_cmp, place_cmp-same}
use Rattle.am_record.specs.declared.entry.Entry.{Entry}
use Rattle.am_record.proofs.KeyOrder.{key_le_trans}
use Rattle.am_record.proofs.Lists.{AllByRecursion-always, AllByRecursion-map, filter-yes, filter-no}
use Rattle.am_record.proofs.Outcomes.{same_test}
use Rattle.am_index.specs.Entries.{first_such, all_from, IsRising}
use Rattle.am_law_effect.specs.MergeAnswers.{Holders, candidates}
use Rattle.am_store_merge.specs.Steps.{is_free_in}
use Rattle.am_store_merge.specs.Walks.{in_part, in_parts_from}
use Rattle.am_store_merge.proofs.Firsts.{All-passed, first_head, head_of}
use Rattle.am_store_merge.proofs.PassingPrefixes.{passing}
use Rattle.am_store_merge.proofs.Walks.{le_part, same_part, ge_key}

-- ---- the beginning of a list that passes a test

module _ {X : Type 0} (p : X → Bool) where
  pub take_while-take : (k : ℕ) (xs : List X) → take_while p (take k xs) ≡ take k (take_while p xs)
  take_while-take zero xs = refl
  take_while-take (suc k) [] = refl
  take_while-take (suc k) (x ∷ xs) =
      take_while-cons p x (take k xs) ∙ by (p x) (take_while-take k xs) ∙
      ap (take (suc k)) (sym (take_while-cons p x xs))
    where
      by : (b : Bool) → take_while p (take k xs) ≡ take k (take_while p xs) →
          cond b (x ∷ take_while p (take k xs)) [] ≡ take (suc k) (cond b (x ∷ take_while p xs) [])
      by true h = ap (λ l. x ∷ l) h
      by false h = refl

  pub take_while-both : (q : X → Bool) (xs : List X) → take_while (λ x. p x && q x) xs ≡ take_while q (take_while p xs)
  take_while-both q [] = refl
  take_while-both q (x ∷ xs) =
      take_while-cons (λ y. p y && q y) x xs ∙ by (p x) (take_while-both q xs) ∙
      ap (take_while q) (sym (take_while-cons p x xs))
    where
      by : (b : Bool) → take_while (λ y. p y && q y) xs ≡ take_while q (take_while p xs) →
          cond (b && q x) (x ∷ take_while (λ y. p y && q y) xs) [] ≡ take_while q (cond b (x ∷ take_while p xs) [])
      by true h = ap (λ l. cond (q x) (x ∷ l) []) h ∙ sym (take_while-cons q x (take_while p xs))
      by false h = refl

  -- it is as much of the list
  pub front_taken : (xs : List X) → take (length (take_while p xs)) xs ≡ take_while p xs
  front_taken xs = ap (λ n. take n xs) (length-prefix_len p xs)

pub front_of_front : {X : Type 0} (n m : ℕ) (xs : List X) → take n (take m xs) ≡ take (length (take n (take m xs))) xs
front_of_front zero m xs = refl
front_of_front (suc n) zero xs = refl
front_of_front (suc n) (suc m) [] = refl
front_of_front (suc n) (suc m) (x ∷ xs) = ap (λ l. x ∷ l) (front_of_front n m xs)

-- the first of a list, if it passes a test
module _ (test : Entry → Bool) (k : ℕ) where
  no_head_in : (es : List Entry) → slice_get (take (suc k) es) 0 ≡ None → head_of (take_while test es) ≡ None
  no_head_in [] none = refl
  no_head_in (e ∷ es) none = absurd (none-some e (sym none))

  head_in : (es : List Entry) (x : Entry) → slice_get (take (suc k) es) 0 ≡ Some x → head_of (take_while test es) ≡
      then_some (test x) x
  head_in [] x one = absurd (none-some x one)
  head_in (e ∷ es) x one =
      ap head_of (take_while-cons test e es) ∙ by (test e) ∙ ap (λ f. then_some (test f) f) (same_Some e x one)
    where
      by : (b : Bool) → head_of (cond b (e ∷ take_while test es) []) ≡ then_some b e
      by true = refl
      by false = refl

-- ---- what passes a test, and how far the list of these passes another one

filter_same : (a b : Entry → Bool) (es : List Entry) → AllByRecursion (λ e. a e ≡ b e) es → filter a es ≡ filter b es
filter_same a b [] same = refl
filter_same a b (e ∷ es) same = λ i. cond (same.0 i) (e ∷ filter_same a b es same.1 i) (filter_same a b es same.1 i)

filter_none : (a : Entry → Bool) (es : List Entry) → AllByRecursion (λ e. a e ≡ false) es → filter a es ≡ []
filter_none a [] none = refl
filter_none a (e ∷ es) none = filter-no a e es none.0 ∙ filter_none a es none.1

module _ (a t : Entry → Bool) (falls : (e f : Entry) → place_cmp (place_of e) (place_of f) ≡ Less → a e ≡ true →
    a f ≡ true → t f ≡ true → t e ≡ true) where
  -- of a rising list, those that pass the other test are those with which it begins
  pub front_of : (es : List Entry) → IsRising es → take_while t (filter a es) ≡ filter (λ e. a e && t e) es
  front_of [] rise = refl
  front_of (e ∷ es) rise = ⊎_elim
      (λ yes.
      ap (take_while t) (filter-yes a e es yes) ∙ take_while-cons t e (filter a es) ∙ ⊎_elim
      (λ on. cond-true (t e) (e ∷ take_while t (filter a es)) [] on ∙ ap (λ l. e ∷ l) (front_of es rise.1) ∙
      sym (filter-yes (λ f. a f && t f) e es (and_from (a e) (t e) yes on)))
      (λ off. cond-false (t e) (e ∷ take_while t (filter a es)) [] off ∙ sym (filter_none (λ f. a f && t f) es
      (AllByRecursion-map (λ f. place_cmp (place_of e) (place_of f) ≡ Less) (λ f. (a f && t f) ≡ false)
      (λ f less. false_from_ne_true (a f && t f) (λ both.
      let p = and_parts (a f) (t f) both in both_ways (t e) off (falls e f less yes p.0 p.1))) es rise.0))
      ∙ sym (filter-no (λ f. a f && t f) e es (and_right (a e) (t e) off)))
      (cases_Bool (t e)))
      (λ no. ap (take_while t) (filter-no a e es no) ∙ front_of es rise.1 ∙
      sym (filter-no (λ f. a f && t f) e es (and_left (a e) (t e) no)))
      (cases_Bool (a e))

-- ---- the entries of a run

-- in the run, and free
abbrev pub may_move : Holders → ℕ → Entry → Bool
may_move held run e = (e.part == run) && is_none (held e.key)

-- the first of the candidates, all that are in the run and free, `most` at most and sixteen
pub record IsStretch (es : List Entry) (held : Holders) (run : ℕ) (range : Interval) (most : ℕ) (xs : List Entry)
    : Type 0 where
  pub first : xs ≡ take (length xs) (candidates es range)
  pub long : length xs ≡ min 16 (passing (may_move held run) most (candidates es range))

-- what is read of a run from the beginning of a range on
module _ (es : List Entry) (rise : IsRising es) (range : Interval) (run : ℕ) where
  abbrev pub is_read : Entry → Bool
  is_read e = (e.part == run) && is_ge (place_cmp (place_of e) (run, range.lo))

  -- in the run, the place tells what the key does
  pub read_by_key : (e : Entry) → (e.part == run) ≡ true →
      is_ge (place_cmp (place_of e) (run, range.lo)) ≡ key_le range.lo e.key
  read_by_key e at = ap (λ p. is_ge (place_cmp (p, e.key) (run, range.lo))) (eqb-true e.part run at) ∙
      ap is_ge (place_cmp-same run e.key range.lo) ∙ ge_key range.lo e.key

  -- those of the run in the range are those with which it begins
  pub read_front : take_while (λ e. within range e.key) (all_from es run range.lo) ≡ filter (in_part run range) es
  read_front =
      front_of is_read (λ e. within range e.key)
      (λ e f less on also inside.
      let here = and_parts (e.part == run) (is_ge (place_cmp (place_of e) (run, range.lo))) on in
      let there = and_parts (f.part == run) (is_ge (place_cmp (place_of f) (run, range.lo))) also in
      let keys = and_parts (key_le range.lo f.key) (key_le f.key range.hi) inside in
      let same : e.part ≡ f.part = eqb-true e.part run here.0 ∙ sym (eqb-true f.part run there.0) in
      let up : key_le e.key f.key ≡ true = ap is_le (sym (same_part e f same) ∙ less) in
      and_from (key_le range.lo e.key) (key_le e.key range.hi) (sym (read_by_key e here.0) ∙ here.1)
      (key_le_trans e.key f.key range.hi up keys.1))
      es rise
      ∙ filter_same (λ e. is_read e && within range e.key) (in_part run range) es
      (AllByRecursion-always (λ e. (is_read e && within range e.key) ≡ in_part run range e)
      (λ e. same_test (is_read e && within range e.key) (in_part run range e)
      (λ t. let p = and_parts (is_read e) (within range e.key) t in
      and_from (e.part == run) (within range e.key)
      (and_parts (e.part == run) (is_ge (place_cmp (place_of e) (run, range.lo))) p.0).0 p.1)
      (λ t. let p = and_parts (e.part == run) (within range e.key) t in
      and_from (is_read e) (within range e.key)
      (and_from (e.part == run) (is_ge (place_cmp (place_of e) (run, range.lo))) p.0
      (read_by_key e p.0 ∙ (and_parts (key_le range.lo e.key) (key_le e.key range.hi) p.1).0))
      p.1)) es)

  first_is_head : first_such (in_part run range) es ≡ head_of (take_while (λ e. within range e.key)
      (all_from es run range.lo))
  first_is_head = first_head (in_part run range) es ∙ ap head_of (sym read_front)

  -- the first entry of the range in the run is the first one read, where that one lies in the range
  module _ (batch : List Entry) (read : batch ≡ take 16 (all_from es run range.lo)) where
    pub none_read : None ≡ slice_get batch 0 → None ≡ first_such (in_part run range) es
    none_read none = sym (first_is_head ∙ no_head_in (λ e. within range e.key) 15 (all_from es run range.lo)
        (ap (λ l. slice_get l 0) (sym read) ∙ sym none))

    pub one_read : (x : Entry) → Some x ≡ slice_get batch 0 → then_some (within range x.key) x ≡ first_such
        (in_part run range) es
    one_read x one = sym (first_is_head ∙ head_in (λ e. within range e.key) 15 (all_from es run range.lo) x
        (ap (λ l. slice_get l 0) (sym read) ∙ sym one))

module _ (es : List Entry) (rise : IsRising es) (held : Holders) (range : Interval) (run : ℕ) (is_run : 1 ≤ run)
    (least : AllByRecursion (λ e. run ≤ e.part) (candidates es range)) where
  -- none of them stands before the run
  from_run : candidates es range ≡ filter (in_parts_from run range) es
  from_run =
      filter_same (in_parts_from 1 range) (in_parts_from run range) es
      (AllByRecursion-map (λ e. in_parts_from 1 range e ≡ true → run ≤ e.part)
      (λ e. in_parts_from 1 range e ≡ in_parts_from run range e)
      (λ e h. same_test (in_parts_from 1 range e) (in_parts_from run range e)
      (λ t. and_from (nat_le run e.part) (within range e.key) (le-leb run e.part (h t))
      (and_parts (nat_le 1 e.part) (within range e.key) t).1)
      (λ t. let p = and_parts (nat_le run e.part) (within range e.key) t in
      let up : run ≤ e.part = leb-true run e.part p.0 in
      and_from (nat_le 1 e.part) (within range e.key) (le-leb 1 e.part (omega arith)) p.1))
      es (All-passed (λ e. run ≤ e.part) (in_parts_from 1 range) es least))

  candidates_front : take_while (λ (e : Entry). e.part == run) (candidates es range) ≡ filter (in_part run range) es
  candidates_front =
      ap (take_while (λ (e : Entry). e.part == run)) from_run ∙
      front_of (in_parts_from run range) (λ e. e.part == run)
      (λ e f less on also at.
      let up : run ≤ e.part = leb-true run e.part (and_parts (nat_le run e.part) (within range e.key) on).0 in
      let le : e.part ≤ f.part = le_part (place_of e) (place_of f) (ap is_le less) in
      let end : f.part ≡ run = eqb-true f.part run at in
      eq-eqb e.part run (omega arith))
      es rise
      ∙ filter_same (λ e. in_parts_from run range e && (e.part == run)) (in_part run range) es
      (AllByRecursion-always (λ e. (in_parts_from run range e && (e.part == run)) ≡ in_part run range e)
      (λ e. same_test (in_parts_from run range e && (e.part == run)) (in_part run range e)
      (λ t. let p = and_parts (in_parts_from run range e) (e.part == run) t in
      and_from (e.part == run) (within range e.key) p.1 (and_parts (nat_le run e.part) (within range e.key) p.0).1)
      (λ t. let p = and_parts (e.part == run) (within range e.key) t in
      let same : e.part ≡ run = eqb-true e.part run p.0 in
      and_from (in_parts_from run range e) (e.part == run)
      (and_from (nat_le run e.part) (within range e.key) (le-leb run e.part (omega arith)) p.1) p.0)) es)

  -- those in the range with which the run begins are those of the run with which the candidates begin
  pub in_run_front : take_while (λ e. within range e.key) (all_from es run range.lo) ≡
      take_while (λ (e : Entry). e.part == run) (candidates es range)
  in_run_front = read_front es rise range run ∙ sym candidates_front

  -- those that are free with which the run begins are those with which the candidates begin
  one_front : take_while (is_free_in held range) (all_from es run range.lo) ≡ take_while (may_move held run)
      (candidates es range)
  one_front =
      take_while-both (λ e. within range e.key) (λ e. is_none (held e.key)) (all_from es run range.lo)
      ∙ ap (take_while (λ e. is_none (held e.key))) in_run_front
      ∙ sym (take_while-both (λ e. e.part == run) (λ e. is_none (held e.key)) (candidates es range))

  -- what is read of them, `most` at most and sixteen
  module _ (most : ℕ) (batch : List Entry) (free : ℕ) (read : batch ≡ take 16 (all_from es run range.lo))
      (counted : free ≡ length (take_while (is_free_in held range) (take most batch))) where
    abbrev front : List Entry
    front = take_while (is_free_in held range) (take most batch)

    front_is : front ≡ take most (take 16 (take_while (may_move held run) (candidates es range)))
    front_is =
        take_while-take (is_free_in held range) most batch ∙
        ap (λ l. take most (take_while (is_free_in held range) l)) read ∙
        ap (take most) (take_while-take (is_free_in held range) 16 (all_from es run range.lo)) ∙
        ap (λ l. take most (take 16 l)) one_front

    front_long : length front ≡ min most (min 16 (length (take_while (may_move held run) (candidates es range))))
    front_long = ap length front_is ∙
        length-take most (take 16 (take_while (may_move held run) (candidates es range))) ∙
        ap (min most) (length-take 16 (take_while (may_move held run) (candidates es range)))

    stretch_is : take free batch ≡ front
    stretch_is =
        ap (λ n. take n batch) counted ∙
        sym (take-take (length front) most batch (omega (arith, front_long))) ∙
        front_taken (is_free_in held range) (take most batch)

    front_first : front ≡ take (length front) (candidates es range)
    front_first =
        let whole : front ≡ take_while (may_move held run) (take most (take 16 (candidates es range))) = front_is ∙
        ap (take most) (sym (take_while-take (may_move held run) 16 (candidates es range))) ∙
        sym (take_while-take (may_move held run) most (take 16 (candidates es range))) in
        whole ∙ sym (front_taken (may_move held run) (take most (take 16 (candidates es range)))) ∙
        ap (λ l. take (length l) (take most (take 16 (candidates es range)))) (sym whole) ∙
        take-take (length front) most (take 16 (candidates es range)) (omega (arith, front_long)) ∙
        take-take (length front) 16 (candidates es range) (omega (arith, front_long))

    stretch_first : take free batch ≡ take (length (take free batch)) (candidates es range)
    stretch_first = subst (λ l. l ≡ take (length l) (candidates es range)) (sym stretch_is) front_first

    stretch_long : length (take free batch) ≡ min 16 (passing (may_move held run) most (candidates es range))
    stretch_long =
        let many : passing (may_move held run) most (candidates es range) ≡ min most
        (length (take_while (may_move held run) (candidates es range))) =
        ap length (take_while-take (may_move held run) most (candidates es range)) ∙
        length-take most (take_while (may_move held run) (candidates es range)) in
        ap length stretch_is ∙ omega (arith, front_long, many)

    pub read_stretch : IsStretch es held run range most (take free batch)
    read_stretch = record { first = stretch_first; long = stretch_long }
