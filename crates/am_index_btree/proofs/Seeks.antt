-- The first entry from a place on, and the entries read on from it.
use Rattle.std.proofs.Common.{◌≡◌, ◌≢◌, ℕ, ◌+◌, Bool, true, false, ◌&&◌, eqb, List, [], ◌∷◌, ◌++◌, take, drop, Option}
use Rattle.std.proofs.Common.{Some, None, if◌then◌else◌, refl, sym, ap, ◌∙◌, ⊎_elim}
use Rattle.std.proofs.lemmas.Bool.{cases_Bool, cond-true, cond-false, true≢false, and_right}
use Rattle.std.proofs.lemmas.List.{take-append-drop}
use Rattle.std.specs.List.{AllByRecursion, slice_get, take_while}
use Rattle.std.specs.declared.cmp.Ordering.{Ordering}
use Rattle.std.specs.declared.cmp.Ordering.TheVariants.{Less, Greater}
use Rattle.std.specs.Ordering.{is_ge, is_gt}
use Rattle.am_record.specs.OrderedKey.{OrderedKey}
use Rattle.am_record.specs.declared.entry.Entry.{Entry}
use Rattle.am_record.specs.EntryOrder.{place_of, place_cmp}
use Rattle.am_record.proofs.Lists.{AllByRecursion-map}
use Rattle.am_index.specs.Entries.{first_such, IsRising}
use Rattle.am_index.specs.Places.{IsPlaceOf, IsGapFor, only_of}
use Rattle.am_index.proofs.Lists.{first_such-append, first_such_here, first_such_none, other_part, not_less}
use Rattle.am_index.proofs.Lists.{not_greater}
use Rattle.am_index.proofs.Lists.{differ, later_parts}
use Rattle.am_index.proofs.Batches.{all_from_at, all_after_at}
use Rattle.am_index.proofs.Searches.{lower_from_place, lower_from_gap, upper_from_place, upper_from_gap, slice_get-drop}
use Rattle.am_index_btree.specs.declared.read.Start.{Start}
use Rattle.am_index_btree.specs.declared.read.Start.TheVariants.{At, Above}
use Rattle.am_index_btree.specs.declared.read.Wanted.{Wanted}
use Rattle.am_index_btree.specs.declared.read.Wanted.TheVariants.{Any, Ghost}
use Rattle.am_index_btree.specs.declared.read.Beginning.{Beginning}
use Rattle.am_index_btree.specs.Seek.{is_reached, is_wanted, is_onward, first_from, first_wanted, all_such, IsStart}
use Rattle.am_index_btree.specs.Seek.{IsIndexFrom}
use Rattle.std.proofs.Math.Bool.{and-true}

-- ---- where a walk begins in a list

pub start_at : (start : Start) (es : List Entry) (part : ℕ) (key : OrderedKey) (i : ℕ) → start ≡ At →
    IsPlaceOf es part key i → IsStart start es part key i
start_at At es part key i e f = lower_from_place es part key i f
start_at Above es part key i e f = absurd (cc e)

pub start_above : (start : Start) (es : List Entry) (part : ℕ) (key : OrderedKey) (i : ℕ) → start ≡ Above →
    IsPlaceOf es part key i → IsStart start es part key (i + 1)
start_above At es part key i e f = absurd (cc e)
start_above Above es part key i e f = upper_from_place es part key i f

pub start_gap : (start : Start) (es : List Entry) (part : ℕ) (key : OrderedKey) (i : ℕ) → IsGapFor es part key i →
    IsStart start es part key i
start_gap At es part key i f = lower_from_gap es part key i f
start_gap Above es part key i f = upper_from_gap es part key i f

-- ---- what is reached

pub reached_less : (start : Start) (o : Ordering) → o ≡ Less → is_reached start o ≡ false
reached_less At o h = ap is_ge h
reached_less Above o h = ap is_gt h

pub reached_greater : (start : Start) (o : Ordering) → o ≡ Greater → is_reached start o ≡ true
reached_greater At o h = ap is_ge h
reached_greater Above o h = ap is_gt h

abbrev option_or : Option Entry → Option Entry → Option Entry
option_or None o = o
option_or (Some e) o = Some e

-- what passes a test is found in the first part, or else in the second one
first_such-parts : (test : Entry → Bool) (xs ys : List Entry) (found : Option Entry) → first_such test xs ≡ found →
    first_such test (xs ++ ys) ≡ option_or found (first_such test ys)
first_such-parts test xs ys found is = parts xs ∙ ap (λ o. option_or o (first_such test ys)) is
  where
    parts : (xs : List Entry) → first_such test (xs ++ ys) ≡ option_or (first_such test xs) (first_such test ys)
    parts [] = refl
    parts (x ∷ xs) =
        elim (test x) as (λ b. (if b then Some x else first_such test (xs ++ ys)) ≡ option_or
        (if b then Some x else first_such test xs) (first_such test ys)) [ true ↦ refl | false ↦ parts xs ]

module _ (wanted : Wanted) (from : Option Beginning) where
  -- entries before the beginning are passed over
  pub wanted_past : (xs ys : List Entry) → AllByRecursion (λ e. is_onward from e ≡ false) xs →
      first_wanted wanted from (xs ++ ys) ≡ first_wanted wanted from ys
  wanted_past xs ys a = first_such-append (λ e. is_wanted wanted e && is_onward from e) xs ys
      (AllByRecursion-map (λ e. is_onward from e ≡ false) (λ e. (is_wanted wanted e && is_onward from e) ≡ false)
      (λ e h. and_right (is_wanted wanted e) (is_onward from e) h) xs a)

  -- of entries behind it the first one that is wanted is found
  pub wanted_onward : (es : List Entry) → AllByRecursion (λ e. is_onward from e ≡ true) es →
      first_wanted wanted from es ≡ first_such (is_wanted wanted) es
  wanted_onward [] a = refl
  wanted_onward (e ∷ es) a =
      ap (λ b. if b then Some e else first_wanted wanted from es)
      (ap (λ b. is_wanted wanted e && b) a.0 ∙ and-true (is_wanted wanted e))
      ∙ ap (λ o. if is_wanted wanted e then Some e else o) (wanted_onward es a.1)

  pub wanted_at : (es : List Entry) (i : ℕ) → IsIndexFrom from es i →
      first_such (is_wanted wanted) (drop i es) ≡ first_wanted wanted from es
  wanted_at es i f = sym (ap (first_wanted wanted from) (sym (take-append-drop i es)) ∙
      wanted_past (take i es) (drop i es) f.passed ∙ wanted_onward (drop i es) f.onward)

  -- what is found in the first part
  pub wanted_here : (xs ys : List Entry) (e : Entry) → Some e ≡ first_wanted wanted from xs →
      Some e ≡ first_wanted wanted from (xs ++ ys)
  wanted_here xs ys e h = sym (first_such-parts (λ x. is_wanted wanted x && is_onward from x) xs ys (Some e) (sym h))

-- without a beginning it goes over all
pub all_onward : (es : List Entry) → AllByRecursion (λ e. is_onward None e ≡ true) es
all_onward [] = tt
all_onward (e ∷ es) = (refl, all_onward es)

-- where nothing is found in the first part, it goes on with all of the others
pub wanted_later : (wanted : Wanted) (from : Option Beginning) (xs ys : List Entry) →
    None ≡ first_wanted wanted from xs → AllByRecursion (λ e. is_onward from e ≡ true) ys →
    first_wanted wanted None ys ≡ first_wanted wanted from (xs ++ ys)
wanted_later wanted from xs ys none a = wanted_onward wanted None ys (all_onward ys) ∙
    sym (first_such-parts (λ e. is_wanted wanted e && is_onward from e) xs ys None (sym none) ∙
    wanted_onward wanted from ys a)

-- any entry: the one with which it begins
pub any_at : (wanted : Wanted) (from : Option Beginning) (es : List Entry) (i : ℕ) → wanted ≡ Any →
    IsIndexFrom from es i → slice_get es i ≡ first_wanted wanted from es
any_at Any from es i is f = sym (slice_get-drop es i) ∙ sym (first_any (drop i es)) ∙ wanted_at Any from es i f
  where
    first_any : (es : List Entry) → first_such (is_wanted Any) es ≡ slice_get es 0
    first_any [] = refl
    first_any (e ∷ es) = refl
any_at Ghost from es i is f = absurd (cc is)

pub ghost_at : (wanted : Wanted) (from : Option Beginning) (es : List Entry) (i : ℕ) → wanted ≡ Ghost →
    IsIndexFrom from es i → first_such (λ e. e.is_ghost) (drop i es) ≡ first_wanted wanted from es
ghost_at Any from es i is f = absurd (cc is)
ghost_at Ghost from es i is f = wanted_at Ghost from es i f

-- where a walk begins with a place, and where it goes on
pub index_from : (start : Start) (es : List Entry) (part : ℕ) (key : OrderedKey) (i : ℕ) →
    IsStart start es part key i → IsIndexFrom (Some (record { part = part; key = key; start = start })) es i
index_from At es part key i b =
    let c : Entry → Ordering = λ e. place_cmp (place_of e) (part, key) in
    record {
      in_range = b.in_range;
      passed = AllByRecursion-map (λ e. c e ≡ Less) (λ e. is_ge (c e) ≡ false) (λ e h. ap is_ge h) (take i es) b.below;
      onward = AllByRecursion-map (λ e. c e ≢ Less) (λ e. is_ge (c e) ≡ true) (λ e h. not_less (c e) h) (drop i es)
          b.others;
    }
index_from Above es part key i b =
    let c : Entry → Ordering = λ e. place_cmp (place_of e) (part, key) in
    record {
      in_range = b.in_range;
      passed = AllByRecursion-map (λ e. c e ≢ Greater) (λ e. is_gt (c e) ≡ false) (λ e h. not_greater (c e) h)
          (take i es) b.others;
      onward = AllByRecursion-map (λ e. c e ≡ Greater) (λ e. is_gt (c e) ≡ true) (λ e h. ap is_gt h) (drop i es)
          b.above;
    }

-- ---- a walk within a partition

module _ (start : Start) (part : ℕ) (key : OrderedKey) where
  abbrev reached : Entry → Bool
  reached e = is_reached start (place_cmp (place_of e) (part, key))

  -- the first entry from the place on, where it is one of the partition
  pub part_from : (es : List Entry) → IsRising es →
      only_of part (first_from start Any es part key) ≡ first_such (λ e. eqb e.part part && reached e) es
  part_from [] r = refl
  part_from (y ∷ ys) r =
      ⊎_elim
      (λ yes.
      let not_below : place_cmp (place_of y) (part, key) ≢ Less =
      λ less. true≢false (sym yes ∙ reached_less start _ less)
      in
      ap (only_of part) (cond-true (reached y) (Some y) (first_from start Any ys part key) yes)
      ∙ ⊎_elim
      (λ same. cond-true (eqb y.part part) (Some y) None same ∙
      sym (first_such_here (λ e. eqb e.part part && reached e) y ys (ap (λ b. b && reached y) same ∙ yes)))
      (λ other. cond-false (eqb y.part part) (Some y) None other ∙
      sym (first_such_none (λ e. eqb e.part part && reached e) (y ∷ ys) (AllByRecursion-map (λ e. e.part ≢ part)
      (λ e. (eqb e.part part && reached e) ≡ false) (λ e h. other_part part key reached e h) (y ∷ ys)
      (later_parts part key y ys not_below (differ y.part part other) r))))
      (cases_Bool (eqb y.part part)))
      (λ not.
      ap (only_of part) (cond-false (reached y) (Some y) (first_from start Any ys part key) not) ∙ part_from ys r.1
      ∙ sym (cond-false (eqb y.part part && reached y) (Some y)
      (first_such (λ e. eqb e.part part && reached e) ys) (and_right (eqb y.part part) (reached y) not)))
      (cases_Bool (reached y))

-- ---- the entries of a partition

pub such_at : (start : Start) (part : ℕ) (key : OrderedKey) (es : List Entry) (i : ℕ) → IsStart start es part key i →
    IsRising es → take_while (λ e. eqb e.part part) (drop i es) ≡ all_such start es part key
such_at At part key es i b rising = all_from_at part key es i b rising
such_at Above part key es i b rising = all_after_at part key es i b rising
