-- Keys that are told apart by their fronts.
use Rattle.std.proofs.Common.{◌≡◌, ℕ, ◌+◌, ◌<◌, ◌≤◌, suc, zero, Bool, true, false, cond, List, [], ◌∷◌, ◌++◌, length}
use Rattle.std.proofs.Common.{get_or, map, Option, Some, None, Result, Ok, Err, refl, sym, ap, ◌∙◌, subst, arith}
use Rattle.std.proofs.Common.{⊎_elim}
use Rattle.std.specs.Prelude.{nat_eq, nat_lt, Vec, MatchOption, MatchResult, is_ok}
use Rattle.std.proofs.lemmas.Bool.{cases_Bool, eqb-true, eq-eqb, true≢false, false_from_ne_true, ltb-true, ltb-false}
use Rattle.std.proofs.lemmas.List.{map-append, get_or_default}
use Rattle.std.proofs.lemmas.List.Elements.{filter-append}
use Rattle.std.proofs.lemmas.List.Folds.{list_any_at, list_any_none}
use Rattle.std.proofs.lemmas.List.Sorted.{searched, IsPermutation-refl, IsPermutation-map}
use Rattle.std.specs.Ordering.{eq_by_cmp, nat_cmp}
use Rattle.std.specs.List.{AllByRecursion, AllPairs, flat_map}
use Rattle.std.specs.List.Sorted.{IsBinarySearchResult, IsPermutation}
use Rattle.std.specs.declared.alloc.Global.{Global}
use Rattle.am_record.specs.OrderedKey.{OrderedKey, key_cmp, key_eq-exact, key_least}
use Rattle.am_record.specs.KeyFront.{key_front}
use Rattle.am_record.specs.Plain.{Records}
use Rattle.am_record.proofs.FirstRows.{Record}
use Rattle.am_store_runs.specs.Cuts.{keys_of, times_among, records_of, AreRunsOf, NoneTwice, IsLeastTwice}
use Rattle.am_store_runs.specs.Fronts.{times_of, is_member, fronts_in, with_fronts, AreShared}
use Rattle.am_store_runs.specs.RecordPlaces.{IsSpot, IsOrder, AreOrders, records_at, runs_named}
use Rattle.am_store_runs.specs.declared.record_order.Spot.{Spot}
use Rattle.am_store_runs.proofs.Pieces.{keys_of-append, runs_permuted}
use Rattle.am_store_runs.proofs.Repeats.{one_where, times_of-cons, one_there}
use Rattle.am_store_runs.proofs.Twice.{one_at, none_at, times_among-cons, found_permuted}

abbrev fronts_of : List OrderedKey → List ℕ
fronts_of ks = map key_front ks

-- as often as a key stands, so often its front does
times_front : (k : OrderedKey) (ks : List OrderedKey) → times_among k ks ≤ times_of (key_front k) (fronts_of ks)
times_front k [] = omega arith
times_front k (l ∷ ks) =
    let more : times_of (key_front k) (fronts_of (l ∷ ks)) ≡ one_where (key_front k) (key_front l)
    + times_of (key_front k) (fronts_of ks) = times_of-cons (key_front k) (key_front l) (fronts_of ks) in
    ⊎_elim
    (λ tie. omega (
      arith,
      more,
      times_among-cons k l ks,
      one_at k l tie,
      one_there (key_front k) (key_front l) (ap key_front (key_eq-exact k l tie)),
      times_front k ks,
    ))
    (λ apart. omega (arith, more, times_among-cons k l ks, none_at k l apart, times_front k ks))
    (cases_Bool (eq_by_cmp key_cmp k l))

-- ---- the keys with some fronts

kept : (fronts : List ℕ) (l : OrderedKey) (ks : List OrderedKey) → is_member (key_front l) fronts ≡ true →
    with_fronts fronts (l ∷ ks) ≡ l ∷ with_fronts fronts ks
kept fronts l ks one = ap (λ b. cond b (l ∷ with_fronts fronts ks) (with_fronts fronts ks)) one

left_out : (fronts : List ℕ) (l : OrderedKey) (ks : List OrderedKey) → is_member (key_front l) fronts ≡ false →
    with_fronts fronts (l ∷ ks) ≡ with_fronts fronts ks
left_out fronts l ks none = ap (λ b. cond b (l ∷ with_fronts fronts ks) (with_fronts fronts ks)) none

-- a key with one of the fronts stands among them as often as among all
all_kept : (fronts : List ℕ) (k : OrderedKey) (ks : List OrderedKey) → is_member (key_front k) fronts ≡ true →
    times_among k (with_fronts fronts ks) ≡ times_among k ks
all_kept fronts k [] one = refl
all_kept fronts k (l ∷ ks) one =
    ⊎_elim
    (λ here. omega (
      arith,
      ap (times_among k) (kept fronts l ks here),
      times_among-cons k l (with_fronts fronts ks),
      times_among-cons k l ks,
      all_kept fronts k ks one,
    ))
    (λ none. omega (
      arith,
      ap (times_among k) (left_out fronts l ks none),
      times_among-cons k l ks,
      none_at k l (false_from_ne_true (eq_by_cmp key_cmp k l) (λ tie. true≢false (sym one
          ∙ ap (λ q. is_member (key_front q) fronts) (key_eq-exact k l tie) ∙ none))),
      all_kept fronts k ks one,
    ))
    (cases_Bool (is_member (key_front l) fronts))

none_added : (fronts : List ℕ) (k : OrderedKey) (ks : List OrderedKey) → times_among k (with_fronts fronts ks) ≤
    times_among k ks
none_added fronts k [] = omega arith
none_added fronts k (l ∷ ks) =
    ⊎_elim
    (λ here. omega (
      arith,
      ap (times_among k) (kept fronts l ks here),
      times_among-cons k l (with_fronts fronts ks),
      times_among-cons k l ks,
      none_added fronts k ks,
    ))
    (λ none. omega (
      arith,
      ap (times_among k) (left_out fronts l ks none),
      times_among-cons k l ks,
      none_added fronts k ks,
    ))
    (cases_Bool (is_member (key_front l) fronts))

module _ (ks : List OrderedKey) (shared : List ℕ) (are : AreShared (fronts_of ks) shared) where
  both_ways : (k : OrderedKey) → 2 ≤ times_among k ks → 2 ≤ times_among k (with_fronts shared ks)
  both_ways k two = omega (
    arith,
    two,
    all_kept shared k ks ((are.twice (key_front k)).1 (omega (arith, two, times_front k ks))),
  )

  at_most_one : (k : OrderedKey) (n : ℕ) → times_among k ks ≡ n → times_among k (with_fronts shared ks) ≤ 1 → n ≤ 1
  at_most_one k zero e few = omega arith
  at_most_one k (suc zero) e few = omega arith
  at_most_one k (suc (suc n)) e few = absurd (omega (arith, few, both_ways k (omega (arith, e))))

  -- what stands twice among the keys with shared fronts does so among all
  found_shared : (found : Option OrderedKey) →
      MatchOption found (NoneTwice (with_fronts shared ks)) (IsLeastTwice (with_fronts shared ks)) →
      MatchOption found (NoneTwice ks) (IsLeastTwice ks)
  found_shared None h = record { once = λ k. at_most_one k (times_among k ks) refl (h.once k) }
  found_shared (Some key) h = record {
    twice = omega (arith, h.twice, none_added shared key ks);
    least = λ other two. h.least other (both_ways other two);
  }

-- ---- the fronts and the keys, order by order

fronts_named : (rs : Records) (ss : List Spot) → AllByRecursion (IsSpot rs) ss →
    map (λ (s : Spot). s.front) ss ≡ fronts_of (keys_of (records_at rs ss))
fronts_named rs [] all = refl
fronts_named rs (s ∷ ss) all = ap (λ n. n ∷ map (λ (t : Spot). t.front) ss) all.0.front ∙
    ap (λ ns. key_front (get_or rs s.place (key_least, [])).0 ∷ ns) (fronts_named rs ss all.1)

fronts_all : (rs : Records) (os : List (Vec Spot Global)) →
    AllByRecursion (λ (o : Vec Spot Global). IsOrder rs o.items) os →
    fronts_in os ≡ fronts_of (keys_of (records_of (runs_named rs os)))
fronts_all rs [] all = refl
fronts_all rs (o ∷ os) all =
    let run = records_at rs o.items in
    let others = records_of (runs_named rs os) in
    ap (λ ns. ns ++ fronts_in os) (fronts_named rs o.items all.0.are.each)
    ∙ ap (λ ns. fronts_of (keys_of run) ++ ns) (fronts_all rs os all.1)
    ∙ sym (map-append key_front (keys_of run) (keys_of others))
    ∙ ap fronts_of (sym (keys_of-append run others))

-- the keys of the orders' records that have one of the fronts, one order after another
abbrev pub keys_by_orders : Records → List ℕ → List (Vec Spot Global) → List OrderedKey
keys_by_orders rs fronts os =
    flat_map (λ (o : Vec Spot Global). with_fronts fronts (keys_of (records_at rs o.items))) os

pub keys_are : (rs : Records) (fronts : List ℕ) (os : List (Vec Spot Global)) →
    keys_by_orders rs fronts os ≡ with_fronts fronts (keys_of (records_of (runs_named rs os)))
keys_are rs fronts [] = refl
keys_are rs fronts (o ∷ os) =
    let test : OrderedKey → Bool = λ k. is_member (key_front k) fronts in
    let run = records_at rs o.items in
    let others = records_of (runs_named rs os) in
    ap (λ ks. with_fronts fronts (keys_of run) ++ ks) (keys_are rs fronts os)
    ∙ sym (filter-append test (keys_of run) (keys_of others))
    ∙ ap (with_fronts fronts) (sym (keys_of-append run others))

-- what was found in the sorted keys with the fronts that the orders share is so in all records
pub found_in_orders : (rs : Records) (os : List (Vec Spot Global)) (shared : List ℕ) (sorted : List OrderedKey)
    (found : Option OrderedKey) → AreOrders rs os → (n : ℕ) × AreRunsOf n rs (runs_named rs os) →
    AreShared (fronts_in os) shared →
    IsPermutation (with_fronts shared (keys_of (records_of (runs_named rs os)))) sorted →
    MatchOption found (NoneTwice sorted) (IsLeastTwice sorted) →
    MatchOption found (NoneTwice (keys_of rs)) (IsLeastTwice (keys_of rs))
found_in_orders rs os shared sorted found orders runs are moved h =
    let all = records_of (runs_named rs os) in
    found_permuted found (keys_of rs) (keys_of all)
    (IsPermutation-map (λ (r : Record). r.0) rs all (runs_permuted runs.0 rs (runs_named rs os) runs.1))
    (found_shared (keys_of all) shared (subst (λ ns. AreShared ns shared) (fronts_all rs os orders.each) are) found
    (found_permuted found (with_fronts shared (keys_of all)) sorted moved h))

none_kept : (ks : List OrderedKey) → with_fronts [] ks ≡ []
none_kept [] = refl
none_kept (k ∷ ks) = none_kept ks

-- no key stands twice where no front is shared
pub apart_in_orders : (rs : Records) (os : List (Vec Spot Global)) (shared : List ℕ) → AreOrders rs os →
    (n : ℕ) × AreRunsOf n rs (runs_named rs os) → AreShared (fronts_in os) shared → length shared ≡ 0 →
    NoneTwice (keys_of rs)
apart_in_orders rs os (n ∷ shared) orders runs are none = absurd (omega (arith, none))
apart_in_orders rs os [] orders runs are none =
    let all = keys_of (records_of (runs_named rs os)) in
    found_in_orders rs os [] [] None orders runs are
    (subst (λ ks. IsPermutation ks []) (sym (none_kept all)) (IsPermutation-refl []))
    (record { once = λ key. omega arith })

-- ---- a search

-- whether a number was found among those that rise
pub search_tells : (ns : List ℕ) (n : ℕ) (found : Result ℕ ℕ) → AllPairs ◌<◌ ns →
    IsBinarySearchResult (λ m. nat_cmp m n) ns found → is_ok found ≡ is_member n ns
search_tells ns n found rising h = by_cases found (searched ns n found h climbs)
  where
    climbs : (i j : ℕ) → i ≤ j → j < length ns → get_or ns i 0 ≤ get_or ns j 0
    climbs i j order less = ⊎_elim
        (λ before. omega (arith, rising i j 0 (ltb-true i j before) less))
        (λ behind. let same : i ≡ j = omega (arith, order, ltb-false i j behind) in
        omega (arith, ap (λ k. get_or ns k 0) same))
        (cases_Bool (nat_lt i j))

    apart : (i k : ℕ) → (k < i → get_or ns k 0 < n) → (i ≤ k → n < get_or ns k 0) → n ≡ get_or ns k 0 → ⊥
    apart i k low high same = ⊎_elim
        (λ before. absurd (omega (arith, same, low (ltb-true k i before))))
        (λ behind. absurd (omega (arith, same, high (omega (arith, ltb-false k i behind)))))
        (cases_Bool (nat_lt k i))

    by_cases : (r : Result ℕ ℕ) →
        MatchResult r (λ i. (i < length ns) × (get_or ns i 0 ≡ n)) (λ i. (i ≤ length ns) × ((k : ℕ) → k < i →
        get_or ns k 0 < n) × ((k : ℕ) → i ≤ k → k < length ns → n < get_or ns k 0)) → is_ok r ≡ is_member n ns
    by_cases (Ok i) at = sym (list_any_at (λ m. nat_eq n m) ns i 0 at.0 (eq-eqb n (get_or ns i 0) (sym at.1)))
    by_cases (Err i) at = sym (list_any_none (λ m. nat_eq n m) ns (λ k d less. false_from_ne_true
        (nat_eq n (get_or ns k d)) (λ e. apart i k (at.1 k) (λ high. at.2 k high less)
        (eqb-true n (get_or ns k d) e ∙ get_or_default ns k d 0 less))))
