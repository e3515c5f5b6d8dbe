-- Lists of partitions, and those in which all entries of a range stand.
use Rattle.std.proofs.Common.{◌≡◌, ◌≢◌, ⊎_elim, ℕ, suc, ◌+◌, ◌<◌, ◌≤◌, Bool, true, false, cond, List, [], ◌∷◌}
use Rattle.std.proofs.Common.{◌==◌, ◌&&◌, filter, sym, ap, ◌∙◌, subst, arith}
use Rattle.std.specs.Prelude.{nat_le, not}
use Rattle.std.specs.List.{AllByRecursion, AllPairs, dedup, dedup_from}
use Rattle.std.specs.List.Sorted.{IsPermutation, IsSorted}
use Rattle.std.specs.Ordering.{nat_cmp}
use Rattle.std.proofs.Math.Dec.{eqb}
use Rattle.std.proofs.lemmas.Bool.{cases_Bool, cases_eq, cases_lt, cond-true, cond-false, both_ways, or_left, or_right}
use Rattle.std.proofs.lemmas.Bool.{or_cases, and_from, eqb-true, eq-eqb}
use Rattle.std.proofs.lemmas.Bool.Decides.{nat_tests}
use Rattle.std.proofs.lemmas.List.Elements.{recursion_from_All}
use Rattle.std.proofs.lemmas.List.Kept.{AllPairs-from_increasing}
use Rattle.std.proofs.lemmas.List.Sorted.{list_any-IsPermutation}
use Rattle.std.proofs.lemmas.Map.Keys.{IsStrictlyIncreasing-dedup}
use Rattle.std.proofs.lemmas.Map.Views.{any-filter_same}
use Rattle.am_record.specs.OrderedKey.{OrderedKey}
use Rattle.am_record.specs.Interval.{Interval, within}
use Rattle.am_record.specs.declared.entry.Entry.{Entry}
use Rattle.am_index_parts.specs.declared.catalog.Catalog.{Catalog}
use Rattle.am_index_parts.specs.declared.run_keys.RunKeys.{RunKeys}
use Rattle.am_index_parts.specs.Catalogs.{left_in, PartsRise, parts_of, is_one_of, IsCatalog, AllStandIn}
use Rattle.am_index_parts.specs.MergedRanges.{HasNoneBefore}
use Rattle.am_index_parts.specs.RunKeys.{IsKnown, KnowsOf, AreKnown}

-- ---- in order, each once

rise_from_pairs : (ps : List ℕ) → AllPairs (λ p q. p < q) ps → PartsRise ps
rise_from_pairs [] pairs = tt
rise_from_pairs (p ∷ ps) pairs = (
  recursion_from_All (λ q. p < q) ps (λ j d lt. pairs 0 (suc j) d (omega arith) (omega (arith, lt))),
  rise_from_pairs ps (λ i j d less lt. pairs (suc i) (suc j) d (omega (arith, less)) (omega (arith, lt))),
)

pub rise_once : (ps : List ℕ) → IsSorted nat_cmp ps → PartsRise (dedup eqb ps)
rise_once ps sorted = rise_from_pairs (dedup eqb ps)
    (AllPairs-from_increasing (dedup eqb ps) (IsStrictlyIncreasing-dedup ps sorted))

has_once_from : (part p : ℕ) (ps : List ℕ) → is_one_of (p ∷ ps) part ≡ true →
    is_one_of (dedup_from eqb p ps) part ≡ true
has_once_from part p [] it = it
has_once_from part p (q ∷ ps) it =
    ⊎_elim
    (λ (same : eqb q p ≡ true). ap (λ (l : List ℕ). is_one_of l part)
    (cond-true (eqb q p) (dedup_from eqb p ps) (p ∷ dedup_from eqb q ps) same) ∙
    has_once_from part p ps
    (⊎_elim (λ here. or_left (p == part) (is_one_of ps part) here)
    (λ later. ⊎_elim
    (λ next. or_left (p == part) (is_one_of ps part)
    (subst (λ (n : ℕ). (n == part) ≡ true) (eqb-true q p same) next))
    (λ behind. or_right (p == part) (is_one_of ps part) behind)
    (or_cases (q == part) (is_one_of ps part) later))
    (or_cases (p == part) (is_one_of (q ∷ ps) part) it)))
    (λ (other : eqb q p ≡ false). ap (λ (l : List ℕ). is_one_of l part)
    (cond-false (eqb q p) (dedup_from eqb p ps) (p ∷ dedup_from eqb q ps) other) ∙
    ⊎_elim (λ here. or_left (p == part) (is_one_of (dedup_from eqb q ps) part) here)
    (λ later. or_right (p == part) (is_one_of (dedup_from eqb q ps) part) (has_once_from part q ps later))
    (or_cases (p == part) (is_one_of (q ∷ ps) part) it))
    (cases_Bool (eqb q p))

pub has_once : (part : ℕ) (ps : List ℕ) → is_one_of ps part ≡ true → is_one_of (dedup eqb ps) part ≡ true
has_once part [] it = it
has_once part (p ∷ ps) it = has_once_from part p ps it

pub has_sorted : (part : ℕ) (old new : List ℕ) → IsPermutation old new → is_one_of old part ≡ true →
    is_one_of new part ≡ true
has_sorted part old new moved it = sym (list_any-IsPermutation (λ p. p == part) old new moved) ∙ it

-- ---- those of the runs that have entries

-- the tests that a run passes
abbrev pub is_open : Catalog → ℕ → ℕ → Bool
is_open c first_run part = nat_le first_run part && is_one_of (parts_of c.runs.items) part

pub has_open : (c : Catalog) (first_run part : ℕ) (ps : List ℕ) → first_run ≤ part →
    is_one_of (parts_of c.runs.items) part ≡ true → is_one_of ps part ≡ true →
    is_one_of (filter (is_open c first_run) ps) part ≡ true
has_open c first_run part ps from listed it =
    any-filter_same (λ p. p == part) (is_open c first_run) true
    (λ p same. ap (is_open c first_run) (eqb-true p part same) ∙
    and_from (nat_le first_run part) (is_one_of (parts_of c.runs.items) part) (grind (arith, nat_tests)) listed) ps ∙ it

-- ---- all entries of a range

-- where an entry stands in the final partition, that one has some
in_final : (n : ℕ) (es : List Entry) → n ≡ left_in 0 es → AllByRecursion (λ (e : Entry). e.part ≡ 0 → n ≢ 0) es
in_final n [] is = tt
in_final n (e ∷ es) is = (
  λ final none.
      let counted : (if_one (e.part == 0)) ≡ 1 = cond-true (e.part == 0) 1 0 (eq-eqb e.part 0 final) in
      omega (arith, is, none, counted),
  later es (λ none. omega (arith, is, none)),
)
  where
    if_one : Bool → ℕ
    if_one b = cond b 1 0

    later : (fs : List Entry) → (n ≡ 0 → left_in 0 fs ≡ 0) → AllByRecursion (λ (e : Entry). e.part ≡ 0 → n ≢ 0) fs
    later [] zero = tt
    later (f ∷ fs) zero = (
      λ final none.
          let counted : (if_one (f.part == 0)) ≡ 1 = cond-true (f.part == 0) 1 0 (eq-eqb f.part 0 final) in
          let all : if_one (f.part == 0) + left_in 0 fs ≡ 0 = zero none in
          omega (arith, all, counted),
      later fs (λ none. let all : if_one (f.part == 0) + left_in 0 fs ≡ 0 = zero none in omega (arith, all)),
    )

module _ (k : RunKeys) (c : Catalog) (range : Interval) (run : ℕ) (found parts : List ℕ)
    (gathered : (live : Bool) (part : ℕ) (key : OrderedKey) → within range key ≡ true → IsKnown k live part key →
    is_one_of found part ≡ true)
    (has_runs : (part : ℕ) → run ≤ part → is_one_of (parts_of c.runs.items) part ≡ true →
    is_one_of found part ≡ true → is_one_of parts part ≡ true)
    (has_final : c.in_final ≢ 0 → is_one_of parts 0 ≡ true)
  where
    stands : (e : Entry) → (e.part ≡ 0 → c.in_final ≢ 0) →
        (0 < e.part → is_one_of (parts_of c.runs.items) e.part ≡ true) → KnowsOf k (not e.is_ghost) e.part e.key →
        (0 < e.part → e.part < run → within range e.key ≡ false) → within range e.key ≡ true →
        is_one_of parts e.part ≡ true
    stands e final listed known none there =
        ⊎_elim
        (λ (same : e.part ≡ 0). subst (λ (p : ℕ). is_one_of parts p ≡ true) (sym same) (has_final (final same)))
        (λ (other : e.part ≢ 0).
        let some : 0 < e.part = omega (arith, other) in
        has_runs e.part
        (⊎_elim (λ less. absurd (both_ways (within range e.key) (none some less) there)) (λ up. up)
        (cases_lt e.part run))
        (listed some) (gathered (not e.is_ghost) e.part e.key there (known some)))
        (cases_eq e.part 0)

    all_of : (es : List Entry) → AllByRecursion (λ (e : Entry). e.part ≡ 0 → c.in_final ≢ 0) es →
        AllByRecursion (λ (e : Entry). 0 < e.part → is_one_of (parts_of c.runs.items) e.part ≡ true) es →
        AllByRecursion (λ (e : Entry). KnowsOf k (not e.is_ghost) e.part e.key) es → HasNoneBefore es range run →
        AllStandIn es range parts
    all_of [] final listed known none = tt
    all_of (e ∷ es) final listed known none =
        (stands e final.0 listed.0 known.0 none.0, all_of es final.1 listed.1 known.1 none.1)

    pub all_stand : (es : List Entry) → IsCatalog es c → AreKnown es k → HasNoneBefore es range run →
        AllStandIn es range parts
    all_stand es whole known none = all_of es (in_final c.in_final es whole.counted.counted) whole.counted.every
        known.each none
