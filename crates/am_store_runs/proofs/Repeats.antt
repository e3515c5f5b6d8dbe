-- Numbers that stand twice or more in a sorted list.
use Rattle.std.proofs.Common.{◌≡◌, ◌≢◌, ◌||◌, ℕ, ◌+◌, ◌<◌, ◌≤◌, true, false, cond, List, [], ◌∷◌, ◌++◌, length, get_or}
use Rattle.std.proofs.Common.{take, drop, refl, sym, ap, ◌∙◌, arith, ◌⊎◌, inl, inr, ⊎_elim}
use Rattle.std.specs.Prelude.{nat_eq}
use Rattle.std.proofs.lemmas.Bool.{cases_Bool, eqb-true, eq-eqb, true≢false, false_from_ne_true, or_left, or_right}
use Rattle.std.proofs.lemmas.Bool.{or_cases}
use Rattle.std.proofs.lemmas.List.Folds.{list_any-append, length-prefix_len}
use Rattle.std.proofs.lemmas.List.Sums.{sum_by-cons, sum_by-take-drop}
use Rattle.std.proofs.lemmas.List.Sorted.{sum_by-IsPermutation}
use Rattle.std.proofs.lemmas.List.Quantifiers.{all_pairs_push}
use Rattle.std.specs.List.{AllByRecursion, AllPairs}
use Rattle.std.specs.List.Sorted.{IsPermutation, IsNonDecreasing}
use Rattle.am_record.proofs.Lists.{AllByRecursion-map, AllByRecursion-append, AllByRecursion-drop, AllByRecursion-at}
use Rattle.am_store_runs.specs.Fronts.{times_of, is_member, AreShared}
use Rattle.am_store_runs.proofs.Groups.{Climbs, alike, climbs_from, climbs_drop, group_alike, above_group, from_first}

-- ---- how often a number stands

abbrev pub one_where : ℕ → ℕ → ℕ
one_where n m = cond (nat_eq n m) 1 0

pub times_of-cons : (n m : ℕ) (ms : List ℕ) → times_of n (m ∷ ms) ≡ one_where n m + times_of n ms
times_of-cons n m ms = sum_by-cons (one_where n) m ms

pub one_there : (n m : ℕ) → n ≡ m → one_where n m ≡ 1
one_there n m h = ap (λ b. cond b 1 0) (eq-eqb n m h)

none_there : (n m : ℕ) → n ≢ m → one_where n m ≡ 0
none_there n m h = ap (λ b. cond b 1 0) (false_from_ne_true (nat_eq n m) (λ e. h (eqb-true n m e)))

times_of-permutation : (n : ℕ) (ms ns : List ℕ) → IsPermutation ms ns → times_of n ns ≡ times_of n ms
times_of-permutation n ms ns p = sum_by-IsPermutation (one_where n) ms ns p

times_alike : (n : ℕ) (ms : List ℕ) → AllByRecursion (λ m. m ≡ n) ms → times_of n ms ≡ length ms
times_alike n [] all = refl
times_alike n (m ∷ ms) all =
    omega (arith, times_of-cons n m ms, one_there n m (sym all.0), times_alike n ms all.1)

times_other : (n m : ℕ) (ms : List ℕ) → n ≢ m → AllByRecursion (λ l. l ≡ m) ms → times_of n ms ≡ 0
times_other n m [] apart all = refl
times_other n m (l ∷ ms) apart all =
    omega (arith, times_of-cons n l ms, none_there n l (λ e. apart (e ∙ all.0)), times_other n m ms apart all.1)

times_above : (n : ℕ) (ms : List ℕ) → AllByRecursion (λ m. n < m) ms → times_of n ms ≡ 0
times_above n [] all = refl
times_above n (m ∷ ms) all =
    omega (arith, times_of-cons n m ms, none_there n m (λ e. absurd (omega (arith, e, all.0))), times_above n ms all.1)

-- ---- the walk over sorted numbers, group by group

-- those that were found are below those that are left, and a number stands twice among all where it was found or stands
-- twice among those that are left
pub record IsSharing (all left shared : List ℕ) : Type 0 where
  pub climbs : Climbs (λ n. n) left
  pub rising : AllPairs ◌<◌ shared
  pub below : AllByRecursion (λ s. AllByRecursion (λ l. s < l) left) shared
  pub found : (n : ℕ) → is_member n shared ≡ true → 2 ≤ times_of n all
  pub here : (n : ℕ) → 2 ≤ times_of n all → (is_member n shared ≡ true) ⊎ (2 ≤ times_of n left)
  pub there : (n : ℕ) → times_of n left ≤ times_of n all

pub sharing_begins : (all : List ℕ) → IsNonDecreasing all → IsSharing all all []
sharing_begins all climbs = record {
  climbs = climbs_from (λ n. n) all climbs;
  rising = λ i j d order less. absurd (omega (arith, less));
  below = tt;
  found = λ n one. absurd (true≢false (sym one));
  here = λ n two. inr two;
  there = λ n. omega arith;
}

pub all_shared : (all left shared : List ℕ) → IsSharing all left shared → length left < 1 → AreShared all shared
all_shared all [] shared h none = record {
  rising = h.rising;
  twice = λ n. (h.found n, λ two. ⊎_elim (λ one. one) (λ later. absurd (omega (arith, later))) (h.here n two));
}
all_shared all (l ∷ left) shared h none = absurd (omega (arith, none))

-- numbers in another order
pub shared_permuted : (ns sorted shared : List ℕ) → IsPermutation ns sorted → AreShared sorted shared →
    AreShared ns shared
shared_permuted ns sorted shared p h = record {
  rising = h.rising;
  twice = λ n.
      let same : times_of n sorted ≡ times_of n ns = times_of-permutation n ns sorted p in
      (λ one. omega (arith, same, (h.twice n).0 one), λ two. (h.twice n).1 (omega (arith, same, two)));
}

-- the group of the first number that is left
module _ {all left shared : List ℕ} (n : ℕ) (h : IsSharing all left shared) (some : 1 ≤ length left)
    (first : n ≡ get_or left 0 0) where
  abbrev rest : List ℕ
  rest = drop (alike (λ m. m) n left) left

  all_above : AllByRecursion (λ l. n < l) rest
  all_above = above_group (λ m. m) n left (from_first (λ m. m) n 0 left some first h.climbs) h.climbs

  parts : (m : ℕ) → times_of m (take (alike (λ m. m) n left) left) + times_of m rest ≡ times_of m left
  parts m = sum_by-take-drop (one_where m) left (alike (λ m. m) n left)

  -- of the first number its group are all that are left
  own : times_of n left ≡ alike (λ m. m) n left
  own = omega (
    arith,
    parts n,
    times_alike n (take (alike (λ m. m) n left) left) (group_alike (λ m. m) n left),
    length-prefix_len (λ m. nat_eq m n) left,
    times_above n rest all_above,
  )

  others : (m : ℕ) → m ≢ n → times_of m rest ≡ times_of m left
  others m apart = omega (
    arith,
    parts m,
    times_other m n (take (alike (λ m. m) n left) left) apart (group_alike (λ m. m) n left),
  )

  rest_fewer : (m : ℕ) → times_of m rest ≤ times_of m all
  rest_fewer m = omega (arith, parts m, h.there m)

  below_rest : AllByRecursion (λ s. AllByRecursion (λ l. s < l) rest) shared
  below_rest = AllByRecursion-map (λ s. AllByRecursion (λ l. s < l) left) (λ s. AllByRecursion (λ l. s < l) rest)
      (λ s below. AllByRecursion-drop (λ l. s < l) (alike (λ m. m) n left) left below) shared h.below

  -- it stands there once
  pub group_alone : alike (λ m. m) n left ≤ 1 → IsSharing all rest shared
  group_alone few = record {
    climbs = climbs_drop (λ m. m) (alike (λ m. m) n left) left h.climbs;
    rising = h.rising;
    below = below_rest;
    found = h.found;
    here = λ m two.
        ⊎_elim
        (λ one. inl one)
        (λ later. inr (omega (
          arith,
          later,
          others m (λ e. absurd (omega (
            arith,
            later,
            own,
            few,
            ap (λ l. times_of l left) e,
          ))),
        )))
        (h.here m two);
    there = rest_fewer;
  }

  -- it stands there twice or more
  pub group_shared : 1 < alike (λ m. m) n left → IsSharing all rest (shared ++ n ∷ [])
  group_shared more = record {
    climbs = climbs_drop (λ m. m) (alike (λ m. m) n left) left h.climbs;
    rising = all_pairs_push ◌<◌ shared n h.rising (λ i d less. omega (
      arith,
      first,
      AllByRecursion-at (λ l. get_or shared i d < l) left 0 0
          (AllByRecursion-at (λ s. AllByRecursion (λ l. s < l) left) shared i d h.below less) some,
    ));
    below = AllByRecursion-append (λ s. AllByRecursion (λ l. s < l) rest) shared (n ∷ []) below_rest (all_above, tt);
    found = λ m one.
        ⊎_elim
        (λ before. h.found m before)
        (λ now. ⊎_elim
        (λ same. omega (arith, more, own, h.there m, ap (λ l. times_of l left) (eqb-true m n same)))
        (λ none. absurd (true≢false (sym none)))
        (or_cases (nat_eq m n) false now))
        (or_cases (is_member m shared) (is_member m (n ∷ [])) (sym (list_any-append (λ l. nat_eq m l) shared (n ∷ [])) ∙
        one));
    here = λ m two.
        ⊎_elim
        (λ same. inl (is_found m (or_right (is_member m shared) (is_member m (n ∷ []))
        (or_left (nat_eq m n) false same))))
        (λ other. ⊎_elim
        (λ before. inl (is_found m (or_left (is_member m shared) (is_member m (n ∷ [])) before)))
        (λ later. inr (omega (arith, later, others m (λ e. true≢false (sym (eq-eqb m n e) ∙ other)))))
        (h.here m two))
        (cases_Bool (nat_eq m n));
    there = rest_fewer;
  }
    where
      is_found : (m : ℕ) → (is_member m shared || is_member m (n ∷ [])) ≡ true → is_member m (shared ++ n ∷ []) ≡ true
      is_found m one = list_any-append (λ l. nat_eq m l) shared (n ∷ []) ∙ one
