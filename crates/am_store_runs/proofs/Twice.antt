-- Keys that stand twice.
use Rattle.std.proofs.Common.{◌≡◌, ℕ, ◌+◌, ◌-◌, ◌<◌, ◌≤◌, suc, zero, true, false, cond, List, [], ◌∷◌, ◌++◌, length}
use Rattle.std.proofs.Common.{get_or, map, take, drop, Option, Some, None, refl, sym, ap, ◌∙◌, subst, arith, add-one}
use Rattle.std.proofs.Common.{⊎_elim}
use Rattle.std.specs.Prelude.{MatchOption}
use Rattle.std.proofs.lemmas.Grind.{common_steps}
use Rattle.std.proofs.lemmas.Bool.{cases_Bool, true≢false, false_from_ne_true}
use Rattle.std.proofs.lemmas.List.Sums.{sum_by-append, sum_by-cons, count_by-le-length}
use Rattle.std.proofs.lemmas.List.Sorted.{sum_by-IsPermutation, ranks_by, sorted_far}
use Rattle.std.specs.declared.cmp.Ordering.{Ordering}
use Rattle.std.specs.declared.cmp.Ordering.TheVariants.{Less, Equal, Greater}
use Rattle.std.specs.Ordering.{is_lt, is_eq, is_le, eq_by_cmp, ordering_reverse}
use Rattle.std.specs.List.{AllByRecursion}
use Rattle.std.specs.List.Sorted.{IsPermutation, IsSorted, IsSortedByKey}
use Rattle.std.specs.FinMap.{is_sorted}
use Rattle.am_record.specs.OrderedKey.{OrderedKey, key_cmp, key_cmp-total, key_eq-exact}
use Rattle.am_record.specs.Interval.{key_le, key_le-itself}
use Rattle.am_record.specs.Plain.{Records}
use Rattle.am_record.proofs.RisingRecords.{Below, sorted_from}
use Rattle.am_record.proofs.FirstRows.{key_eq-itself}
use Rattle.am_record.proofs.Orderings.{not_lt_le_back}
use Rattle.am_store_runs.specs.Cuts.{keys_of, times_among, NoneTwice, IsLeastTwice}

-- ---- how often a key stands

abbrev pub one_if : OrderedKey → OrderedKey → ℕ
one_if key k = cond (eq_by_cmp key_cmp key k) 1 0

pub one_at : (key k : OrderedKey) → eq_by_cmp key_cmp key k ≡ true → one_if key k ≡ 1
one_at key k h = ap (λ b. cond b 1 0) h

pub none_at : (key k : OrderedKey) → eq_by_cmp key_cmp key k ≡ false → one_if key k ≡ 0
none_at key k h = ap (λ b. cond b 1 0) h

pub times_among-cons : (key k : OrderedKey) (ks : List OrderedKey) → times_among key (k ∷ ks) ≡ one_if key k +
    times_among key ks
times_among-cons key k ks = sum_by-cons (one_if key) k ks

pub times_among-append : (key : OrderedKey) (ks ls : List OrderedKey) → times_among key (ks ++ ls) ≡ times_among key ks
    + times_among key ls
times_among-append key ks ls = sum_by-append (one_if key) ks ls

pub times_among-permutation : (key : OrderedKey) (ks ls : List OrderedKey) → IsPermutation ks ls →
    times_among key ls ≡ times_among key ks
times_among-permutation key ks ls p = sum_by-IsPermutation (one_if key) ks ls p

pub none_twice-append : (ks ls : List OrderedKey) → NoneTwice (ks ++ ls) → NoneTwice ks × NoneTwice ls
none_twice-append ks ls h = (
  record { once = λ key. omega (arith, h.once key, times_among-append key ks ls) },
  record { once = λ key. omega (arith, h.once key, times_among-append key ks ls) },
)

-- what is found in one order is so in the other
pub found_permuted : (found : Option OrderedKey) (ks ls : List OrderedKey) → IsPermutation ks ls →
    MatchOption found (NoneTwice ls) (IsLeastTwice ls) → MatchOption found (NoneTwice ks) (IsLeastTwice ks)
found_permuted None ks ls p h = record { once = λ key. omega (arith, h.once key, times_among-permutation key ks ls p) }
found_permuted (Some k) ks ls p h = record {
  twice = omega (arith, h.twice, times_among-permutation k ks ls p);
  least = λ other two. h.least other (omega (arith, two, times_among-permutation other ks ls p));
}

-- ---- sorted keys, one after another

abbrev pub FromBelow : OrderedKey → List OrderedKey → Type 0
FromBelow k ks = AllByRecursion (λ l. is_lt (key_cmp l k) ≡ false) ks

abbrev pub Ascends : List OrderedKey → Type 0
Ascends [] = Unit {0}
Ascends (k ∷ ks) = FromBelow k ks × Ascends ks

module _ {X : Type 0} (key : X → OrderedKey) where
  all_at : (P : OrderedKey → Type 0) (xs : List X) → ((i : ℕ) (d : X) → i < length xs → P (key (get_or xs i d))) →
      AllByRecursion P (map key xs)
  all_at P [] h = tt
  all_at P (x ∷ xs) h = (h 0 x (omega arith), all_at P xs (λ i d less. h (suc i) d (omega arith)))

  -- the keys of elements that were sorted by key
  pub ascends_by : (xs : List X) → IsSortedByKey key key_cmp xs → Ascends (map key xs)
  ascends_by [] h = tt
  ascends_by (x ∷ xs) h = (
    all_at (λ l. is_lt (key_cmp l (key x)) ≡ false) xs (λ i d less. sorted_far (λ a b. is_lt (key_cmp (key a) (key b)))
        (ranks_by key_cmp-total key) (x ∷ xs) h 0 (suc i) d (omega arith) (omega arith)),
    ascends_by xs (λ i d low less. rw add-one (let at : is_lt
        (key_cmp (key (get_or (x ∷ xs) (suc (suc i)) d))
        (key (get_or (x ∷ xs) (suc i) d))) ≡ false = rw add-one at
        (h (suc i) d (omega arith) (omega arith)) in at)),
  )

map_same : (ks : List OrderedKey) → map (λ k. k) ks ≡ ks
map_same [] = refl
map_same (k ∷ ks) = ap (λ ls. k ∷ ls) (map_same ks)

ascends : (ks : List OrderedKey) → IsSorted key_cmp ks → Ascends ks
ascends ks h = subst Ascends (map_same ks) (ascends_by (λ k. k) ks h)

at_least : (k l : OrderedKey) → is_lt (key_cmp l k) ≡ false → key_le k l ≡ true
at_least k l h = ap is_le (key_cmp-total.antisymm k l) ∙ not_lt_le_back (key_cmp l k) h

strictly : (o : Ordering) → is_lt (ordering_reverse o) ≡ false → is_eq o ≡ false → o ≡ Less
strictly Less h n = refl
strictly Equal h n = absurd (true≢false n)
strictly Greater h n = absurd (true≢false h)

is_above : (k l : OrderedKey) → is_lt (key_cmp l k) ≡ false → eq_by_cmp key_cmp k l ≡ false → key_cmp k l ≡ Less
is_above k l h n = strictly (key_cmp k l) (ap is_lt (sym (key_cmp-total.antisymm l k)) ∙ h) n

-- a key that stands among them is at or above the first
stands_above : (k : OrderedKey) (ks : List OrderedKey) (key : OrderedKey) → FromBelow k ks → 1 ≤ times_among key ks →
    key_le k key ≡ true
stands_above k [] key from h = absurd (omega arith)
stands_above k (l ∷ ks) key from h =
    ⊎_elim
    (λ tie. subst (λ x. key_le k x ≡ true) (sym (key_eq-exact key l tie)) (at_least k l from.0))
    (λ apart. stands_above k ks key from.1 (omega (arith, h, times_among-cons key l ks, none_at key l apart)))
    (cases_Bool (eq_by_cmp key_cmp key l))

-- ---- records that were sorted by key rise, where no key stands twice

below_of : (k : OrderedKey) (rs : Records) → FromBelow k (keys_of rs) → times_among k (keys_of rs) ≡ 0 → Below k rs
below_of k [] from none = tt
below_of k (r ∷ rs) from none =
    let apart : eq_by_cmp key_cmp k r.0 ≡ false = false_from_ne_true (eq_by_cmp key_cmp k r.0)
    (λ tie. absurd (omega (arith, none, times_among-cons k r.0 (keys_of rs), one_at k r.0 tie))) in
    (is_above k r.0 from.0 apart, below_of k rs from.1 (omega (arith, none, times_among-cons k r.0 (keys_of rs))))

pub rising_of : (rs : Records) → Ascends (keys_of rs) → NoneTwice (keys_of rs) → is_sorted key_cmp rs ≡ true
rising_of [] h once = refl
rising_of (r ∷ rs) h once =
    let alone : times_among r.0 (keys_of rs) ≡ 0 = omega (
      arith,
      once.once r.0,
      times_among-cons r.0 r.0 (keys_of rs),
      one_at r.0 r.0 (key_eq-itself r.0),
    ) in
    sorted_from r rs (below_of r.0 rs h.0 alone) (rising_of rs h.1 (none_twice-append (r.0 ∷ []) (keys_of rs) once).1)

-- ---- the walk over sorted keys: a key stands twice among all where it does among those that are left

pub record IsLeftOf (all left : List OrderedKey) : Type 0 where
  pub ascending : Ascends left
  pub here : (key : OrderedKey) → 2 ≤ times_among key all → 2 ≤ times_among key left
  pub there : (key : OrderedKey) → 2 ≤ times_among key left → 2 ≤ times_among key all

pub all_left : (ks : List OrderedKey) → IsSorted key_cmp ks → IsLeftOf ks ks
all_left ks h = record { ascending = ascends ks h; here = λ key two. two; there = λ key two. two }

pub tie_is_least : (all : List OrderedKey) (k l : OrderedKey) (ks : List OrderedKey) → IsLeftOf all (k ∷ l ∷ ks) →
    eq_by_cmp key_cmp l k ≡ true → IsLeastTwice all k
tie_is_least all k l ks h tie =
    let same : l ≡ k = key_eq-exact l k tie in
    let first : one_if k k ≡ 1 = one_at k k (key_eq-itself k) in
    let second : one_if k l ≡ 1 = one_at k l (subst (λ x. eq_by_cmp key_cmp k x ≡ true) (sym same) (key_eq-itself k)) in
    record {
      twice = h.there k (omega (arith, first, second, times_among-cons k k (l ∷ ks), times_among-cons k l ks));
      least = λ other two.
          let stands : 2 ≤ times_among other (k ∷ l ∷ ks) = h.here other two in
          ⊎_elim
          (λ equal. subst (λ x. key_le k x ≡ true) (sym (key_eq-exact other k equal)) (key_le-itself k))
          (λ apart. stands_above k (l ∷ ks) other h.ascending.0
          (omega (arith, stands, times_among-cons other k (l ∷ ks), none_at other k apart)))
          (cases_Bool (eq_by_cmp key_cmp other k));
    }

-- the first of those that are left is not the next, so it stands nowhere after it
both_ways_le : (o : Ordering) → is_le o ≡ true → is_le (ordering_reverse o) ≡ true → is_eq o ≡ true
both_ways_le Less h g = absurd (true≢false (sym g))
both_ways_le Equal h g = refl
both_ways_le Greater h g = absurd (true≢false (sym h))

first_is_alone : (k l : OrderedKey) (ks : List OrderedKey) → Ascends (k ∷ l ∷ ks) → eq_by_cmp key_cmp k l ≡ false →
    times_among k (l ∷ ks) ≡ 0
first_is_alone k l ks h apart = by_cases (times_among k ks) refl
  where
    by_cases : (n : ℕ) → times_among k ks ≡ n → times_among k (l ∷ ks) ≡ 0
    by_cases zero e = omega (arith, e, times_among-cons k l ks, none_at k l apart)
    by_cases (suc n) e =
        let above : key_le l k ≡ true = stands_above l ks k h.1.0 (omega (arith, e)) in
        let below : key_le k l ≡ true = at_least k l h.0.0 in
        absurd (true≢false (sym (both_ways_le (key_cmp k l) below (ap is_le (sym (key_cmp-total.antisymm l k)) ∙
        above)) ∙ apart))

walk_on : (all : List OrderedKey) (k l : OrderedKey) (ks : List OrderedKey) → IsLeftOf all (k ∷ l ∷ ks) →
    eq_by_cmp key_cmp k l ≡ false → IsLeftOf all (l ∷ ks)
walk_on all k l ks h apart = record {
  ascending = h.ascending.1;
  here = λ key two.
      let stands : 2 ≤ times_among key (k ∷ l ∷ ks) = h.here key two in
      ⊎_elim
      (λ tie.
      let alone : times_among key (l ∷ ks) ≡ 0 = subst (λ x. times_among x (l ∷ ks) ≡ 0) (sym (key_eq-exact key k tie))
      (first_is_alone k l ks h.ascending apart) in
      absurd (omega (arith, stands, alone, times_among-cons key k (l ∷ ks), one_at key k tie)))
      (λ other. omega (arith, stands, times_among-cons key k (l ∷ ks), none_at key k other))
      (cases_Bool (eq_by_cmp key_cmp key k));
  there = λ key two. h.there key (omega (arith, two, times_among-cons key k (l ∷ ks)));
}

-- ---- the same of a list with two keys or more, as a slice has it

pub tie_of : (all left : List OrderedKey) (k l : OrderedKey) → IsLeftOf all left → 2 ≤ length left →
    k ≡ get_or left 0 k → l ≡ get_or left 1 l → eq_by_cmp key_cmp k l ≡ true → IsLeastTwice all k
tie_of all [] k l h two first second tie = absurd (omega arith)
tie_of all (x ∷ []) k l h two first second tie = absurd (omega arith)
tie_of all (x ∷ y ∷ rest) k l h two first second tie =
    subst (IsLeastTwice all) (sym first)
    (tie_is_least all x y rest h (ap is_eq (ap (λ z. key_cmp z x) (sym second)) ∙
    ap (λ z. eq_by_cmp key_cmp l z) (sym first) ∙ subst (λ z. eq_by_cmp key_cmp l z ≡ true)
    (sym (key_eq-exact k l tie)) (key_eq-itself l)))

take_rest : (x : OrderedKey) (xs : List OrderedKey) → take (length (x ∷ xs) - 1) (drop 1 (x ∷ xs)) ≡ xs
take_rest x xs = grind (arith, common_steps)

pub walk_of : (all left : List OrderedKey) (k l : OrderedKey) → IsLeftOf all left → 2 ≤ length left →
    k ≡ get_or left 0 k → l ≡ get_or left 1 l → eq_by_cmp key_cmp k l ≡ false →
    IsLeftOf all (take (length left - 1) (drop 1 left))
walk_of all [] k l h two first second apart = absurd (omega arith)
walk_of all (x ∷ []) k l h two first second apart = absurd (omega arith)
walk_of all (x ∷ y ∷ rest) k l h two first second apart =
    subst (IsLeftOf all) (sym (take_rest x (y ∷ rest)))
    (walk_on all x y rest h (ap (λ z. eq_by_cmp key_cmp z y) (sym first) ∙
    ap (λ z. eq_by_cmp key_cmp k z) (sym second) ∙ apart))

at_most_one : (a b n : ℕ) → (2 ≤ a → 2 ≤ b) → b ≤ n → n < 2 → a ≤ 1
at_most_one zero b n h few short = omega arith
at_most_one (suc zero) b n h few short = omega arith
at_most_one (suc (suc a)) b n h few short = let two : 2 ≤ b = h (omega arith) in absurd (omega (arith, two))

pub walked : (all left : List OrderedKey) → IsLeftOf all left → length left < 2 → NoneTwice all
walked all left h short = record {
  once = λ key.
      at_most_one (times_among key all) (times_among key left) (length left) (h.here key)
      (count_by-le-length (λ k. eq_by_cmp key_cmp key k) left) short;
}
