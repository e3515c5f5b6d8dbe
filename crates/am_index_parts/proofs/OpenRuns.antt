-- How many runs have entries, by the list of them.
use Rattle.std.proofs.Common.{◌≡◌, ℕ, zero, suc, ◌+◌, ◌<◌, ◌≤◌, true, List, [], ◌∷◌, length, refl}
use Rattle.std.proofs.Common.{sym, ap}
use Rattle.std.proofs.Common.{◌∙◌, subst, ⊎_elim, arith}
use Rattle.std.proofs.Common.{◌-◌, Some}
use Rattle.std.proofs.lemmas.Option.{same_Some}
use Rattle.std.specs.Prelude.{nat_lt, slice_get, ◌==◌}
use Rattle.std.proofs.lemmas.Bool.{cases_Bool, cond-true, cond-false, ltb-true, ltb-false, eqb-true, or_cases}
use Rattle.std.proofs.lemmas.Bool.{false≢true}
use Rattle.std.specs.List.{AllByRecursion}
use Rattle.std.specs.declared.cmp.Ordering.TheVariants.{Less, Greater}
use Rattle.am_record.specs.EntryOrder.{place_cmp, place_cmp-part, place_of}
use Rattle.am_record.specs.declared.entry.Entry.{Entry}
use Rattle.am_record.proofs.Lists.{AllByRecursion-map, AllByRecursion-always}
use Rattle.std.proofs.lemmas.List.{length-map}
use Rattle.am_index.specs.Entries.{IsRising}
use Rattle.am_index.specs.Runs.{NothingAbove}
use Rattle.am_index_parts.specs.declared.catalog.OpenRun.{OpenRun}
use Rattle.am_index_parts.specs.Catalogs.{left_in, parts_of, PartsRise, is_one_of, IsOpenRun, AreListed, parts_above}
use Rattle.am_index_parts.specs.Catalogs.{runs_in}
use Rattle.am_index_parts.proofs.Counts.{none_if}

-- the numbers, which rise, are just those of the partitions above the one in which entries stand
record AreAbove (part : ℕ) (es : List Entry) (ps : List ℕ) : Type 0 where
  rising : PartsRise ps
  above : AllByRecursion (λ p. part < p) ps
  each : AllByRecursion (λ p. 0 < left_in p es) ps
  every : AllByRecursion (λ e. part < e.part → is_one_of ps e.part ≡ true) es

-- each entry's partition is the one or above it
abbrev NoneBelow : ℕ → List Entry → Type 0
NoneBelow part es = AllByRecursion (λ e. part ≤ e.part) es

none_below : (e : Entry) (es : List Entry) → IsRising (e ∷ es) → NoneBelow e.part es
none_below e es rising = AllByRecursion-map (λ f. place_cmp (place_of e) (place_of f) ≡ Less) (λ f. e.part ≤ f.part)
    (λ f less. place_cmp-part (place_of e) (place_of f) (λ greater. let no : Less ≡ Greater = sym less ∙ greater in cc))
    es rising.0

-- an entry of another partition counts for none of these
left_later : (e : Entry) (es : List Entry) (ps : List ℕ) → AllByRecursion (λ p. e.part < p) ps →
    AllByRecursion (λ p. 0 < left_in p (e ∷ es)) ps → AllByRecursion (λ p. 0 < left_in p es) ps
left_later e es [] above each = tt
left_later e es (p ∷ ps) above each = (
  omega (arith, each.0, none_if e.part p (λ same. let up : e.part < p = above.0 in absurd (omega (arith, up, same)))),
  left_later e es ps above.1 each.1,
)

none_before : (es : List Entry) (p : ℕ) → AllByRecursion (λ (e : Entry). p < e.part) es → left_in p es ≡ 0
none_before [] p up = refl
none_before (e ∷ es) p up = let lt : p < e.part = up.0 in
    omega (arith, none_if e.part p (λ same. absurd (omega (arith, same, lt))), none_before es p up.1)

one_above : (p q : ℕ) (ps : List ℕ) → AllByRecursion (λ r. p < r) ps → is_one_of ps q ≡ true → p < q
one_above p q [] up one = absurd (false≢true one)
one_above p q (r ∷ ps) up one = ⊎_elim
    (λ here. let same : r ≡ q = eqb-true r q here in let lt : p < r = up.0 in omega (arith, same, lt))
    (λ later. one_above p q ps up.1 later)
    (or_cases (r == q) (is_one_of ps q) one)

-- the least of the numbers is the first partition above the one
first_is : (part : ℕ) (e : Entry) (es : List Entry) (p : ℕ) (ps : List ℕ) → IsRising (e ∷ es) → part < e.part →
    AreAbove part (e ∷ es) (p ∷ ps) → p ≡ e.part
first_is part e es p ps rising up a = ⊎_elim
    (λ here. eqb-true p e.part here)
    (λ later. let lt : p < e.part = one_above p e.part ps a.rising.0 later in
    let none : left_in p (e ∷ es) ≡ 0 = none_before (e ∷ es) p (
      lt,
      AllByRecursion-map (λ f. e.part ≤ f.part) (λ f. p < f.part) (λ f le. omega (arith, le, lt)) es
          (none_below e es rising),
    ) in
    absurd (omega (arith, none, a.each.0)))
    (or_cases (p == e.part) (is_one_of ps e.part) (a.every.0 up))

-- the entry is the first of its partition; the later ones go on with the later numbers
goes_up : (e : Entry) (es : List Entry) (part : ℕ) (ps : List ℕ) → IsRising (e ∷ es) → part < e.part →
    AreAbove part (e ∷ es) ps →
    ((qs : List ℕ) → AreAbove e.part es qs → parts_above e.part es ≡ length qs) →
    1 + parts_above e.part es ≡ length ps
goes_up e es part [] rising up a later = absurd (false≢true (a.every.0 up))
goes_up e es part (p ∷ ps) rising up a later =
    let same : p ≡ e.part = first_is part e es p ps rising up a in
    let above : AllByRecursion (λ q. e.part < q) ps = subst (λ (r : ℕ). AllByRecursion (λ q. r < q) ps) same
    a.rising.0 in
    omega (
      arith,
      later ps (record {
        rising = a.rising.1;
        above = above;
        each = left_later e es ps above a.each.1;
        every = AllByRecursion-map (λ f. part < f.part → is_one_of (p ∷ ps) f.part ≡ true)
            (λ f. e.part < f.part → is_one_of ps f.part ≡ true)
            (λ f was lt. ⊎_elim
            (λ here. let it : p ≡ f.part = eqb-true p f.part here in absurd (omega (arith, it, same, lt)))
            (λ other. other)
            (or_cases (p == f.part) (is_one_of ps f.part) (was (omega (arith, up, lt)))))
            es a.every.1;
      }),
    )

counted : (es : List Entry) (part : ℕ) (ps : List ℕ) → IsRising es → NoneBelow part es → AreAbove part es ps →
    parts_above part es ≡ length ps
counted [] part [] rising low a = refl
counted [] part (p ∷ ps) rising low a = absurd (omega (arith, a.each.0))
counted (e ∷ es) part ps rising low a = ⊎_elim
    (λ yes. cond-true (nat_lt part e.part) (1 + parts_above e.part es) (parts_above part es) yes ∙
    goes_up e es part ps rising (ltb-true part e.part yes) a
    (λ qs later. counted es e.part qs rising.1 (none_below e es rising) later))
    (λ no. let le : e.part ≤ part = ltb-false part e.part no in
    cond-false (nat_lt part e.part) (1 + parts_above e.part es) (parts_above part es) no ∙
    counted es part ps rising.1 low.1 (record {
      rising = a.rising;
      above = a.above;
      each = left_later e es ps (AllByRecursion-map (λ p. part < p) (λ p. e.part < p) (λ p lt. omega (arith, lt, le))
          ps a.above) a.each;
      every = a.every.1;
    }))
    (cases_Bool (nat_lt part e.part))

-- the list has as many runs as have entries
pub as_many : {es : List Entry} {n : ℕ} {runs : List OpenRun} → IsRising es → AreListed es n runs →
    length runs ≡ runs_in es
as_many {es} {n} {runs} rising h =
    sym (length-map runs (λ (r : OpenRun). r.part)) ∙ sym (counted es 0 (parts_of runs) rising
    (AllByRecursion-always (λ e. 0 ≤ e.part) (λ e. omega arith) es)
    (record { rising = h.rising; above = are_runs runs h.each; each = are_left runs h.each; every = h.every }))
  where
    are_runs : (rs : List OpenRun) → AllByRecursion (IsOpenRun es) rs → AllByRecursion (λ p. 0 < p) (parts_of rs)
    are_runs [] a = tt
    are_runs (r ∷ rs) a = (a.0.is_run, are_runs rs a.1)

    are_left : (rs : List OpenRun) → AllByRecursion (IsOpenRun es) rs →
        AllByRecursion (λ p. 0 < left_in p es) (parts_of rs)
    are_left [] a = tt
    are_left (r ∷ rs) a = let it = a.0 in (omega (arith, it.exact, it.some), are_left rs a.1)

-- each step up goes to a partition of its own, and none is above the last
few_above : (last : ℕ) (es : List Entry) (part : ℕ) → part ≤ last → AllByRecursion (λ e. e.part ≤ last) es →
    parts_above part es + part ≤ last
few_above last [] part low all = omega (arith, low)
few_above last (e ∷ es) part low all = ⊎_elim
    (λ yes. let up : part < e.part = ltb-true part e.part yes in
    let later = few_above last es e.part all.0 all.1 in
    subst (λ n. n + part ≤ last) (sym (cond-true (nat_lt part e.part) (1 + parts_above e.part es)
    (parts_above part es) yes)) (omega (arith, up, later)))
    (λ no. subst (λ n. n + part ≤ last) (sym (cond-false (nat_lt part e.part) (1 + parts_above e.part es)
    (parts_above part es) no)) (few_above last es part low all.1))
    (cases_Bool (nat_lt part e.part))

-- no more runs have entries than were made
pub few_runs : (runs : ℕ) (es : List Entry) → NothingAbove runs es → runs_in es ≤ runs
few_runs runs es above = omega (arith, few_above runs es 0 (omega arith) above.all)

-- the last one is the greatest
up_to : (runs : List OpenRun) (n : ℕ) → n + 1 ≡ length runs → PartsRise (parts_of runs) → (r : OpenRun) →
    slice_get runs n ≡ Some r → AllByRecursion (λ (q : OpenRun). q.part ≤ r.part) runs
up_to [] n long up r is = tt
up_to (q ∷ []) zero long up r is = (omega (arith, ap (λ (p : OpenRun). p.part) (same_Some _ _ is)), tt)
up_to (q ∷ []) (suc n) long up r is = absurd (omega (arith, long))
up_to (q ∷ p ∷ runs) zero long up r is = absurd (omega (arith, long))
up_to (q ∷ p ∷ runs) (suc n) long up r is =
    let rest = up_to (p ∷ runs) n (omega (arith, long)) up.1 r is in
    let first : q.part < p.part = up.0.0 in let next : p.part ≤ r.part = rest.0 in
    (omega (arith, first, next), rest)

pub up_to_last : (runs : List OpenRun) → PartsRise (parts_of runs) → (r : OpenRun) →
    slice_get runs (length runs - 1) ≡ Some r → AllByRecursion (λ (q : OpenRun). q.part ≤ r.part) runs
up_to_last [] up r is = tt
up_to_last (q ∷ runs) up r is = up_to (q ∷ runs) (length (q ∷ runs) - 1) (omega arith) up r is
