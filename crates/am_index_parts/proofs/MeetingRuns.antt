-- The runs that may have a key in a range, as they are gathered.
use Rattle.std.proofs.Common.{◌≡◌, ◌⊎◌, inl, inr, ⊎_elim, ℕ, zero, suc, ◌+◌, ◌<◌, Bool, true, false, List, [], ◌∷◌}
use Rattle.std.proofs.Common.{◌==◌, ◌++◌, length, get_or, take, drop, refl, sym, ap, ◌∙◌, subst, arith}
use Rattle.std.proofs.lemmas.Bool.{and_parts, both_ways, or_left, or_right, eq-eqb}
use Rattle.std.proofs.lemmas.List.Folds.{list_any-append}
use Rattle.am_record.specs.OrderedKey.{OrderedKey}
use Rattle.am_record.specs.Interval.{Interval, key_le, within, meets}
use Rattle.am_record.proofs.KeyOrder.{key_le_trans}
use Rattle.am_index_parts.specs.declared.apart_runs.ApartRun.{ApartRun}
use Rattle.am_index_parts.specs.declared.run_filters.Generation.{Generation}
use Rattle.am_index_parts.specs.declared.run_filters.RunFilter.{RunFilter}
use Rattle.am_index_parts.specs.ApartRuns.{StandsApart, AreInOrder}
use Rattle.am_index_parts.specs.Catalogs.{is_one_of}
use Rattle.am_index_parts.specs.RunFilters.{IsNamed, IsNamedIn, MayBeIn}
use Rattle.am_index_parts.proofs.ApartRuns.{EndBefore, EndLater, none_meets}
use Rattle.am_index_parts.proofs.Filters.{named_up_to, may_be_up_to}
use Rattle.am_index_parts.proofs.KnownKeys.{none_stands}

-- ---- lists of partitions

-- what one list has the other has too
abbrev pub HasAllOf : List ℕ → List ℕ → Type 0
HasAllOf new old = (part : ℕ) → is_one_of old part ≡ true → is_one_of new part ≡ true

pub has_more : (old : List ℕ) (p : ℕ) (new : List ℕ) → new ≡ old ++ p ∷ [] → HasAllOf new old
has_more old p new is = λ part it.
    ap (λ (l : List ℕ). is_one_of l part) is ∙ list_any-append (λ q. q == part) old (p ∷ []) ∙
    or_left (is_one_of old part) (is_one_of (p ∷ []) part) it

pub has_last : (old : List ℕ) (p : ℕ) (new : List ℕ) → new ≡ old ++ p ∷ [] → (part : ℕ) → p ≡ part →
    is_one_of new part ≡ true
has_last old p new is part same =
    ap (λ (l : List ℕ). is_one_of l part) is ∙ list_any-append (λ q. q == part) old (p ∷ []) ∙
    or_right (is_one_of old part) (is_one_of (p ∷ []) part)
    (or_left (p == part) false (eq-eqb p part same))

-- ---- runs that stand apart

-- those before the index that have a key of the range are among the parts, and the others end where it begins or later
pub record AreMeeting (rs : List ApartRun) (range : Interval) (before parts : List ℕ) (at : ℕ) : Type 0 where
  pub kept : HasAllOf parts before
  pub added : (part : ℕ) (key : OrderedKey) → within range key ≡ true → StandsApart (take at rs) part key →
      is_one_of parts part ≡ true
  pub later : EndLater range.lo (drop at rs)

-- none that ends before the range has a key of it
ended : (rs : List ApartRun) (range : Interval) (part : ℕ) (key : OrderedKey) → EndBefore range.lo rs →
    within range key ≡ true → StandsApart rs part key → ⊥
ended [] range part key before there it = it
ended (a ∷ rs) range part key before there (inl here) =
    let of_range = and_parts (key_le range.lo key) (key_le key range.hi) there in
    let of_run = and_parts (key_le a.range.lo key) (key_le key a.range.hi) here.1 in
    both_ways (key_le range.lo a.range.hi) before.0 (key_le_trans range.lo key a.range.hi of_range.0 of_run.1)
ended (a ∷ rs) range part key before there (inr later) = ended rs range part key before.1 there later

stands_up_to : (rs : List ApartRun) (i : ℕ) (run : ApartRun) (part : ℕ) (key : OrderedKey) → i < length rs →
    run ≡ get_or rs i run → StandsApart (take (suc i) rs) part key → StandsApart (take i rs) part key ⊎
    (run.part ≡ part)
stands_up_to [] i run part key lt is it = absurd it
stands_up_to (a ∷ rs) zero run part key lt is (inl here) = inr (ap (λ (r : ApartRun). r.part) is ∙ here.0)
stands_up_to (a ∷ rs) zero run part key lt is (inr later) = absurd later
stands_up_to (a ∷ rs) (suc i) run part key lt is (inl here) = inl (inl here)
stands_up_to (a ∷ rs) (suc i) run part key lt is (inr later) =
    ⊎_elim (λ before. inl (inr before)) (λ same. inr same) (stands_up_to rs i run part key (omega (arith, lt)) is later)

stands_in_two : (rs : List ApartRun) (i : ℕ) (part : ℕ) (key : OrderedKey) → StandsApart rs part key →
    StandsApart (take i rs) part key ⊎ StandsApart (drop i rs) part key
stands_in_two rs zero part key it = inr it
stands_in_two [] (suc i) part key it = absurd it
stands_in_two (a ∷ rs) (suc i) part key (inl here) = inl (inl here)
stands_in_two (a ∷ rs) (suc i) part key (inr later) =
    ⊎_elim (λ before. inl (inr before)) (λ behind. inr behind) (stands_in_two rs i part key later)

later_still : (key : OrderedKey) (rs : List ApartRun) (i : ℕ) → EndLater key (drop i rs) → EndLater key (drop (suc i)
    rs)
later_still key [] zero all = tt
later_still key [] (suc i) all = tt
later_still key (a ∷ rs) zero all = all.1
later_still key (a ∷ rs) (suc i) all = later_still key rs i all

in_order_from : (rs : List ApartRun) (i : ℕ) → AreInOrder rs → AreInOrder (drop i rs)
in_order_from rs zero order = order
in_order_from [] (suc i) order = tt
in_order_from (a ∷ rs) (suc i) order = in_order_from rs i order.2

first_from : (rs : List ApartRun) (i : ℕ) (d : ApartRun) → get_or (drop i rs) 0 d ≡ get_or rs i d
first_from rs zero d = refl
first_from [] (suc i) d = refl
first_from (a ∷ rs) (suc i) d = first_from rs i d

some_from : (rs : List ApartRun) (i : ℕ) → 0 < length (drop i rs) → i < length rs
some_from rs zero lt = lt
some_from [] (suc i) lt = absurd (omega (arith, lt))
some_from (a ∷ rs) (suc i) lt = let less : i < length rs = some_from rs i lt in omega (arith, less)

module _ (rs : List ApartRun) (range : Interval) (before : List ℕ) where
  pub none_met_yet : (at : ℕ) → EndBefore range.lo (take at rs) → EndLater range.lo (drop at rs) →
      AreMeeting rs range before before at
  none_met_yet at ends later = record {
    kept = λ part it. it;
    added = λ part key there it. absurd (ended (take at rs) range part key ends there it);
    later = later;
  }

  pub one_more_met : (parts new : List ℕ) (at : ℕ) (run : ApartRun) → at < length rs → run ≡ get_or rs at run →
      new ≡ parts ++ run.part ∷ [] → AreMeeting rs range before parts at → AreMeeting rs range before new (at + 1)
  one_more_met parts new at run lt is pushed so_far = let next : at + 1 ≡ suc at = omega arith in record {
    kept = λ part it. has_more parts run.part new pushed part (so_far.kept part it);
    added = λ part key there it.
        ⊎_elim (λ old. has_more parts run.part new pushed part (so_far.added part key there old))
        (λ same. has_last parts run.part new pushed part same)
        (stands_up_to rs at run part key lt is (subst (λ (n : ℕ). StandsApart (take n rs) part key) next it));
    later = subst (λ (n : ℕ). EndLater range.lo (drop n rs)) (sym next) (later_still range.lo rs at so_far.later);
  }

  pub all_met : (parts : List ℕ) (at : ℕ) → AreInOrder rs →
      ((d : ApartRun) → at < length rs → meets (get_or rs at d).range range ≡ false) →
      AreMeeting rs range before parts at → (part : ℕ) (key : OrderedKey) → within range key ≡ true →
      StandsApart rs part key → is_one_of parts part ≡ true
  all_met parts at order misses so_far part key there it =
      ⊎_elim (λ first. so_far.added part key there first)
      (λ behind. absurd (none_stands (drop at rs) range part key
      (none_meets (drop at rs) range 0 (in_order_from rs at order) tt so_far.later
      (λ d lt. ap (λ (a : ApartRun). meets a.range range) (first_from rs at d) ∙ misses d (some_from rs at lt)))
      there behind))
      (stands_in_two rs at part key it)

-- ---- runs with filters

-- the parts have all from before, and the runs of these filters
pub record HaveNamed (fs : List RunFilter) (before parts : List ℕ) : Type 0 where
  pub kept : HasAllOf parts before
  pub added : (live : Bool) (part n : ℕ) → IsNamed live fs part n → is_one_of parts part ≡ true

pub no_filter_yet : (fs : List RunFilter) (before : List ℕ) → HaveNamed (take 0 fs) before before
no_filter_yet fs before = record { kept = λ part it. it; added = λ live part n it. absurd it }

pub one_filter_more : (fs : List RunFilter) (before parts new : List ℕ) (i : ℕ) (f : RunFilter) → i < length fs →
    f ≡ get_or fs i f → new ≡ parts ++ f.part ∷ [] → HaveNamed (take i fs) before parts →
    HaveNamed (take (i + 1) fs) before new
one_filter_more fs before parts new i f lt is pushed so_far = let next : i + 1 ≡ suc i = omega arith in record {
  kept = λ part it. has_more parts f.part new pushed part (so_far.kept part it);
  added = λ live part n it.
      ⊎_elim (λ here. has_last parts f.part new pushed part here.0)
      (λ earlier. has_more parts f.part new pushed part (so_far.added live part n earlier))
      (named_up_to live part n fs i f lt is (subst (λ (k : ℕ). IsNamed live (take k fs) part n) next it));
}

-- the same of generations
pub record HaveNamedIn (gs : List Generation) (before parts : List ℕ) : Type 0 where
  pub kept : HasAllOf parts before
  pub added : (live : Bool) (part n : ℕ) → MayBeIn live gs part n → is_one_of parts part ≡ true

pub no_generation_yet : (gs : List Generation) (before : List ℕ) → HaveNamedIn (take 0 gs) before before
no_generation_yet gs before = record { kept = λ part it. it; added = λ live part n it. absurd it }

pub one_generation_more : (gs : List Generation) (before parts new : List ℕ) (i : ℕ) (g : Generation) → i < length gs →
    g ≡ get_or gs i g → HasAllOf new parts →
    ((live : Bool) (part n : ℕ) → IsNamedIn live g part n → is_one_of new part ≡ true) →
    HaveNamedIn (take i gs) before parts → HaveNamedIn (take (i + 1) gs) before new
one_generation_more gs before parts new i g lt is kept named so_far = let next : i + 1 ≡ suc i = omega arith in record {
  kept = λ part it. kept part (so_far.kept part it);
  added = λ live part n it.
      ⊎_elim (λ here. named live part n here) (λ earlier. kept part (so_far.added live part n earlier))
      (may_be_up_to live part n gs i g lt is (subst (λ (k : ℕ). MayBeIn live (take k gs) part n) next it));
}
