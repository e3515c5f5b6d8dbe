-- What filters say of runs, and of the entries that stand in them.
use Rattle.std.proofs.Common.{◌≡◌, ◌⊎◌, inl, inr, ⊎_elim, ℕ, zero, suc, ◌-◌, ◌<◌, ◌≤◌, Bool, true, false, cond}
use Rattle.std.proofs.Common.{◌||◌}
use Rattle.std.proofs.Common.{List, [], ◌∷◌, ◌++◌, Option, Some, None, length, get_or, set, take}
use Rattle.std.proofs.Common.{refl, sym, ap, ◌∙◌, subst, arith}
use Rattle.std.specs.Prelude.{is_some, filter, not, ◌==◌, ◌&&◌}
use Rattle.std.specs.List.{list_any}
use Rattle.std.proofs.lemmas.Bool.{cases_Bool, cond-true, cond-false, true≢false, false≢true, both_ways, ne_eqb}
use Rattle.std.proofs.lemmas.Bool.{and_from, or_from, or_parts, or_left, or_right}
use Rattle.am_index_filter.specs.Covers.{is_marked}
use Rattle.am_index_parts.specs.declared.catalog.OpenRun.{OpenRun}
use Rattle.am_index_parts.specs.declared.run_filters.Generation.{Generation}
use Rattle.am_index_parts.specs.declared.run_filters.RunFilter.{RunFilter}
use Rattle.am_index_parts.specs.Catalogs.{parts_of, is_one_of}
use Rattle.am_index_parts.specs.RunFilters.{IsNamed, IsNamedIn, MayBeIn, may_have_any}
use Rattle.am_index_parts.specs.RunFilters.{first_some, newest_of, newest_run}

-- ---- the runs of a generation

module _ (live : Bool) (run n : ℕ) where
  pub named_last : (fs : List RunFilter) (f : RunFilter) → f.part ≡ run → is_marked f.filter n ≡ true →
      f.is_awake ≡ true → IsNamed live (fs ++ f ∷ []) run n
  named_last [] f is has awake = inl (is, has, λ _. awake)
  named_last (g ∷ fs) f is has awake = inr (named_last fs f is has awake)

  pub named_before : (fs : List RunFilter) (f : RunFilter) → IsNamed live fs run n → IsNamed live (fs ++ f ∷ []) run n
  named_before [] f it = absurd it
  named_before (g ∷ fs) f (inl here) = inl here
  named_before (g ∷ fs) f (inr later) = inr (named_before fs f later)

  -- what the filter says
  abbrev pub Is : RunFilter → Type 0
  Is f = (f.part ≡ run) × (is_marked f.filter n ≡ true) × (live ≡ true → f.is_awake ≡ true)

  pub named_up_to : (fs : List RunFilter) (i : ℕ) (x : RunFilter) → i < length fs → x ≡ get_or fs i x →
      IsNamed live (take (suc i) fs) run n → Is x ⊎ IsNamed live (take i fs) run n
  named_up_to [] i x lt is it = absurd (omega (arith, lt))
  named_up_to (f ∷ fs) zero x lt is (inl here) = inl (subst Is (sym is) here)
  named_up_to (f ∷ fs) zero x lt is (inr later) = absurd later
  named_up_to (f ∷ fs) (suc i) x lt is (inl here) = inr (inl here)
  named_up_to (f ∷ fs) (suc i) x lt is (inr later) =
      ⊎_elim (λ at. inl at) (λ before. inr (inr before)) (named_up_to fs i x (omega (arith, lt)) is later)

  -- one of the first of them is the last of these, or is before it
  pub named_below : (fs : List RunFilter) (at : ℕ) (x : RunFilter) → 0 < at → at ≤ length fs →
      x ≡ get_or fs (at - 1) x → IsNamed live (take at fs) run n → Is x ⊎ IsNamed live (take (at - 1) fs) run n
  named_below fs at x some le is it =
      let last : at ≡ suc (at - 1) = omega (arith, some) in
      named_up_to fs (at - 1) x (omega (arith, some, le)) is (subst (λ (i : ℕ). IsNamed live (take i fs) run n) last it)

  pub named_in_none : (fs : List RunFilter) (at : ℕ) → at ≡ 0 → IsNamed live (take at fs) run n → ⊥
  named_in_none fs at none it = subst (λ (i : ℕ). IsNamed live (take i fs) run n) none it

  pub named_among : (runs : List OpenRun) (fs : List RunFilter) → is_one_of (parts_of runs) run ≡ true →
      IsNamed live fs run n → IsNamed live (filter (λ (f : RunFilter). is_one_of (parts_of runs) f.part) fs) run n
  named_among runs [] stays it = absurd it
  named_among runs (f ∷ fs) stays (inl here) =
      subst (λ (l : List RunFilter). IsNamed live l run n) (sym (cond-true (is_one_of (parts_of runs) f.part) _ _
      (ap (is_one_of (parts_of runs)) here.0 ∙ stays))) (inl here)
  named_among runs (f ∷ fs) stays (inr later) =
      ⊎_elim
      (λ yes. subst (λ (l : List RunFilter). IsNamed live l run n) (sym (cond-true (is_one_of (parts_of runs) f.part)
      _ _
      yes)) (inr (named_among runs fs stays later)))
      (λ no. subst (λ (l : List RunFilter). IsNamed live l run n) (sym (cond-false (is_one_of (parts_of runs) f.part)
      _ _
      no)) (named_among runs fs stays later))
      (cases_Bool (is_one_of (parts_of runs) f.part))

  -- where another is put in the place of one, what that one said is said
  pub named_set : (fs : List RunFilter) (i : ℕ) (old new : RunFilter) → old ≡ get_or fs i old → (Is old → Is new) →
      IsNamed live fs run n → IsNamed live (set fs i new) run n
  named_set [] i old new at more it = absurd it
  named_set (f ∷ fs) zero old new at more (inl here) = inl (more (subst Is (sym at) here))
  named_set (f ∷ fs) zero old new at more (inr later) = inr later
  named_set (f ∷ fs) (suc i) old new at more (inl here) = inl here
  named_set (f ∷ fs) (suc i) old new at more (inr later) = inr (named_set fs i old new at more later)

pub some_awake : (run n : ℕ) (fs : List RunFilter) → IsNamed true fs run n →
    list_any (λ (f : RunFilter). f.is_awake) fs ≡ true
some_awake run n [] it = absurd it
some_awake run n (f ∷ fs) (inl here) = or_left f.is_awake (list_any (λ (g : RunFilter). g.is_awake) fs) (here.2 refl)
some_awake run n (f ∷ fs) (inr later) = or_right f.is_awake (list_any (λ (g : RunFilter). g.is_awake) fs)
    (some_awake run n fs later)

-- where each filter of the run is awake, so it is for a live entry
pub named_awake : (part n : ℕ) (fs : List RunFilter) → ((k : ℕ) (d : RunFilter) → k < length fs →
    (get_or fs k d).part ≡ part → (get_or fs k d).is_awake ≡ true) → IsNamed false fs part n → IsNamed true fs part n
named_awake part n [] each it = absurd it
named_awake part n (f ∷ fs) each (inl here) = inl (here.0, here.1, λ _. each 0 f (omega arith) here.0)
named_awake part n (f ∷ fs) each (inr later) = inr (named_awake part n fs (λ k d lt. each (suc k) d (omega (arith, lt)))
    later)

pub named_too : (run n : ℕ) (fs : List RunFilter) → IsNamed true fs run n → IsNamed false fs run n
named_too run n [] it = it
named_too run n (f ∷ fs) (inl here) = inl (here.0, here.1, λ no. absurd (false≢true no))
named_too run n (f ∷ fs) (inr later) = inr (named_too run n fs later)

-- ---- generations

module _ (live : Bool) (run n : ℕ) where
  pub may_be_before : (gs : List Generation) (g : Generation) → MayBeIn live gs run n → MayBeIn live (gs ++ g ∷ [])
      run n
  may_be_before [] g it = absurd it
  may_be_before (h ∷ gs) g (inl here) = inl here
  may_be_before (h ∷ gs) g (inr later) = inr (may_be_before gs g later)

  pub may_be_set : (gs : List Generation) (i : ℕ) (old new : Generation) → old ≡ get_or gs i old →
      (IsNamedIn live old run n → IsNamedIn live new run n) → MayBeIn live gs run n → MayBeIn live (set gs i new) run n
  may_be_set [] i old new at more it = absurd it
  may_be_set (g ∷ gs) zero old new at more (inl here) = inl (more
      (subst (λ (h : Generation). IsNamedIn live h run n) (sym at) here))
  may_be_set (g ∷ gs) zero old new at more (inr later) = inr later
  may_be_set (g ∷ gs) (suc i) old new at more (inl here) = inl here
  may_be_set (g ∷ gs) (suc i) old new at more (inr later) = inr (may_be_set gs i old new at more later)

  pub may_be_at : (gs : List Generation) (i : ℕ) (new : Generation) → i < length gs → IsNamedIn live new run n →
      MayBeIn live (set gs i new) run n
  may_be_at [] i new lt it = absurd (omega (arith, lt))
  may_be_at (g ∷ gs) zero new lt it = inl it
  may_be_at (g ∷ gs) (suc i) new lt it = inr (may_be_at gs i new (omega (arith, lt)) it)

  pub may_be_up_to : (gs : List Generation) (i : ℕ) (x : Generation) → i < length gs → x ≡ get_or gs i x →
      MayBeIn live (take (suc i) gs) run n → IsNamedIn live x run n ⊎ MayBeIn live (take i gs) run n
  may_be_up_to [] i x lt is it = absurd (omega (arith, lt))
  may_be_up_to (g ∷ gs) zero x lt is (inl here) = inl (subst (λ (h : Generation). IsNamedIn live h run n) (sym is) here)
  may_be_up_to (g ∷ gs) zero x lt is (inr later) = absurd later
  may_be_up_to (g ∷ gs) (suc i) x lt is (inl here) = inr (inl here)
  may_be_up_to (g ∷ gs) (suc i) x lt is (inr later) =
      ⊎_elim (λ at. inl at) (λ before. inr (inr before)) (may_be_up_to gs i x (omega (arith, lt)) is later)

  pub may_be_below : (gs : List Generation) (at : ℕ) (x : Generation) → 0 < at → at ≤ length gs →
      x ≡ get_or gs (at - 1) x → MayBeIn live (take at gs) run n →
      IsNamedIn live x run n ⊎ MayBeIn live (take (at - 1) gs) run n
  may_be_below gs at x some le is it =
      let last : at ≡ suc (at - 1) = omega (arith, some) in
      may_be_up_to gs (at - 1) x (omega (arith, some, le)) is
      (subst (λ (i : ℕ). MayBeIn live (take i gs) run n) last it)

  pub may_be_in_none : (gs : List Generation) (at : ℕ) → at ≡ 0 → MayBeIn live (take at gs) run n → ⊥
  may_be_in_none gs at none it = subst (λ (i : ℕ). MayBeIn live (take i gs) run n) none it

pub may_be_woken : (part n : ℕ) (gs : List Generation) → ((k : ℕ) (d : Generation) → k < length gs →
    IsNamedIn false (get_or gs k d) part n → IsNamedIn true (get_or gs k d) part n) → MayBeIn false gs part n →
    MayBeIn true gs part n
may_be_woken part n [] each it = absurd it
may_be_woken part n (g ∷ gs) each (inl here) = inl (each 0 g (omega arith) here)
may_be_woken part n (g ∷ gs) each (inr later) = inr (may_be_woken part n gs
    (λ k d lt. each (suc k) d (omega (arith, lt))) later)

pub may_be_too : (run n : ℕ) (gs : List Generation) → MayBeIn true gs run n → MayBeIn false gs run n
may_be_too run n [] it = it
may_be_too run n (g ∷ gs) (inl here) = inl (record {
  from = here.from;
  to = here.to;
  awake = λ no. absurd (false≢true no);
  covered = here.covered;
  named = named_too run n g.runs.items here.named;
})
may_be_too run n (g ∷ gs) (inr later) = inr (may_be_too run n gs later)

-- ---- numbers that are in no run

asleep_or_none : (a b : Bool) → a ≡ true → (a && b) ≡ false → b ≡ false
asleep_or_none a b awake e = ap (λ (x : Bool). x && b) (sym awake) ∙ e

fewer_none : (a b c : Bool) → (a && (b || c)) ≡ false → (a && c) ≡ false
fewer_none true b c e = (or_parts b c e).1
fewer_none false b c e = e

pub none_first : (gs : List Generation) (n : ℕ) (ns : List ℕ) (run : ℕ) → may_have_any gs (n ∷ ns) ≡ false →
    MayBeIn true gs run n → ⊥
none_first [] n ns run none it = it
none_first (g ∷ gs) n ns run none (inl here) =
    let parts = or_parts (g.is_awake && list_any (λ m. is_marked g.all m) (n ∷ ns)) (may_have_any gs (n ∷ ns)) none in
    both_ways (is_marked g.all n) (or_parts (is_marked g.all n) (list_any (λ m. is_marked g.all m) ns)
    (asleep_or_none g.is_awake (list_any (λ m. is_marked g.all m) (n ∷ ns)) (here.awake refl) parts.0)).0 here.covered
none_first (g ∷ gs) n ns run none (inr later) =
    none_first gs n ns run (or_parts (g.is_awake && list_any (λ m. is_marked g.all m) (n ∷ ns)) (may_have_any gs (n ∷
    ns))
    none).1 later

pub none_later : (gs : List Generation) (n : ℕ) (ns : List ℕ) → may_have_any gs (n ∷ ns) ≡ false →
    may_have_any gs ns ≡ false
none_later [] n ns none = refl
none_later (g ∷ gs) n ns none =
    let parts = or_parts (g.is_awake && list_any (λ m. is_marked g.all m) (n ∷ ns)) (may_have_any gs (n ∷ ns)) none in
    or_from (g.is_awake && list_any (λ m. is_marked g.all m) ns) (may_have_any gs ns)
    (fewer_none g.is_awake (is_marked g.all n) (list_any (λ m. is_marked g.all m) ns) parts.0) (none_later gs n ns
    parts.1)

-- a generation without runs says nothing
some_named : (live : Bool) (run n : ℕ) (fs : List RunFilter) → IsNamed live fs run n → (length fs == 0) ≡ false
some_named live run n [] it = absurd it
some_named live run n (f ∷ fs) it = ne_eqb (length (f ∷ fs)) 0 (λ none. absurd (omega (arith, none)))

pub may_be_in_others : (live : Bool) (run n : ℕ) (gs : List Generation) → MayBeIn live gs run n →
    MayBeIn live (filter (λ (g : Generation). not (length g.runs.items == 0)) gs) run n
may_be_in_others live run n [] it = absurd it
may_be_in_others live run n (g ∷ gs) (inl here) =
    subst (λ (l : List Generation). MayBeIn live l run n) (sym (cond-true (not (length g.runs.items == 0)) _ _
    (ap not (some_named live run n g.runs.items here.named)))) (inl here)
may_be_in_others live run n (g ∷ gs) (inr later) =
    ⊎_elim
    (λ yes. subst (λ (l : List Generation). MayBeIn live l run n) (sym (cond-true (not (length g.runs.items == 0)) _ _
    yes)) (inr (may_be_in_others live run n gs later)))
    (λ no. subst (λ (l : List Generation). MayBeIn live l run n) (sym (cond-false (not (length g.runs.items == 0)) _ _
    no)) (may_be_in_others live run n gs later))
    (cases_Bool (not (length g.runs.items == 0)))

-- ---- the newest run

-- what is not said of a place is not found there
pub not_said : (live : Bool) (run n : ℕ) (f : RunFilter) → live ≡ true → (f.is_awake && is_marked f.filter n) ≡ false →
    (f.part ≡ run) × (is_marked f.filter n ≡ true) × (live ≡ true → f.is_awake ≡ true) → ⊥
not_said live run n f is none it = both_ways (f.is_awake && is_marked f.filter n) none
    (and_from f.is_awake (is_marked f.filter n) (it.2 is) it.1)

pub not_said_in : (run n : ℕ) (g : Generation) → (g.is_awake && is_marked g.all n) ≡ false → IsNamedIn true g run n → ⊥
not_said_in run n g none it = both_ways (g.is_awake && is_marked g.all n) none
    (and_from g.is_awake (is_marked g.all n) (it.awake refl) it.covered)

first_of_three : (a b c : Option ℕ) → first_some (first_some a b) c ≡ first_some a (first_some b c)
first_of_three None b c = refl
first_of_three (Some run) b c = refl

first_alone : (a : Option ℕ) → a ≡ first_some a None
first_alone None = refl
first_alone (Some run) = refl

-- what one filter says
abbrev pub newest_by : RunFilter → ℕ → Option ℕ
newest_by f n = cond (f.is_awake && is_marked f.filter n) (Some f.part) None

pub newest_up_to : (n : ℕ) (fs : List RunFilter) (i : ℕ) (x : RunFilter) → i < length fs → x ≡ get_or fs i x →
    newest_of (take (suc i) fs) n ≡ first_some (newest_by x n) (newest_of (take i fs) n)
newest_up_to n [] i x lt is = absurd (omega (arith, lt))
newest_up_to n (f ∷ fs) zero x lt is = ap (λ (g : RunFilter). newest_by g n) (sym is) ∙ first_alone (newest_by x n)
newest_up_to n (f ∷ fs) (suc i) x lt is =
    ap (λ o. first_some o (newest_by f n)) (newest_up_to n fs i x (omega (arith, lt)) is) ∙
    first_of_three (newest_by x n) (newest_of (take i fs) n) (newest_by f n)

pub newest_below : (n : ℕ) (fs : List RunFilter) (at : ℕ) (x : RunFilter) → 0 < at → at ≤ length fs →
    x ≡ get_or fs (at - 1) x → newest_of (take at fs) n ≡ first_some (newest_by x n) (newest_of (take (at - 1) fs) n)
newest_below n fs at x some le is =
    let last : at ≡ suc (at - 1) = omega (arith, some) in
    ap (λ i. newest_of (take i fs) n) last ∙ newest_up_to n fs (at - 1) x (omega (arith, some, le)) is

abbrev pub newest_in : Generation → ℕ → Option ℕ
newest_in g n = cond (g.is_awake && is_marked g.all n) (newest_of g.runs.items n) None

newest_run_up_to : (n : ℕ) (gs : List Generation) (i : ℕ) (x : Generation) → i < length gs → x ≡ get_or gs i x →
    newest_run (take (suc i) gs) n ≡ first_some (newest_in x n) (newest_run (take i gs) n)
newest_run_up_to n [] i x lt is = absurd (omega (arith, lt))
newest_run_up_to n (g ∷ gs) zero x lt is = ap (λ (h : Generation). newest_in h n) (sym is) ∙ first_alone (newest_in x n)
newest_run_up_to n (g ∷ gs) (suc i) x lt is =
    ap (λ o. first_some o (newest_in g n)) (newest_run_up_to n gs i x (omega (arith, lt)) is) ∙
    first_of_three (newest_in x n) (newest_run (take i gs) n) (newest_in g n)

pub newest_run_below : (n : ℕ) (gs : List Generation) (at : ℕ) (x : Generation) → 0 < at → at ≤ length gs →
    x ≡ get_or gs (at - 1) x → newest_run (take at gs) n ≡ first_some (newest_in x n) (newest_run (take (at - 1) gs) n)
newest_run_below n gs at x some le is =
    let last : at ≡ suc (at - 1) = omega (arith, some) in
    ap (λ i. newest_run (take i gs) n) last ∙ newest_run_up_to n gs (at - 1) x (omega (arith, some, le)) is

pub first_is_some : (a b : Option ℕ) → is_some a ≡ true → first_some a b ≡ a
first_is_some None b some = absurd (false≢true some)
first_is_some (Some run) b some = refl

pub first_is_none : (a b : Option ℕ) → is_some a ≡ false → first_some a b ≡ b
first_is_none None b none = refl
first_is_none (Some run) b none = absurd (true≢false none)
