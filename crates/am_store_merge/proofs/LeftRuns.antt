-- A run that a merge step leaves has no entry in the range.
use Rattle.std.proofs.Common.{◌≡◌, ◌≢◌, ℕ, zero, suc, ◌+◌, ◌<◌, ◌≤◌, List, [], ◌∷◌, length, take, drop, Bool, true}
use Rattle.std.proofs.Common.{false, cond, refl, ap, ◌∙◌, subst, ⊎_elim, arith}
use Rattle.std.specs.Prelude.{nat_le, ◌==◌, not, take_while}
use Rattle.std.specs.declared.cmp.Ordering.TheVariants.{Less}
use Rattle.std.specs.Ordering.{is_le}
use Rattle.std.specs.List.{AllByRecursion}
use Rattle.std.proofs.lemmas.Bool.{cases_Bool, cond-true, cond-false, both_ways, and_from, eq-eqb, false_from_ne_true}
use Rattle.std.proofs.lemmas.Bool.{le-leb, false≢true}
use Rattle.std.proofs.lemmas.List.Sums.{take_while-cons}
use Rattle.am_record.specs.Interval.{Interval, within}
use Rattle.am_record.specs.EntryOrder.{place_of, place_cmp}
use Rattle.am_record.specs.declared.entry.Entry.{Entry}
use Rattle.am_record.proofs.Lists.{AllByRecursion-map, AllByRecursion-drop}
use Rattle.am_index.specs.Entries.{all_from, IsRising}
use Rattle.am_law_effect.specs.MergeAnswers.{Holders, candidates}
use Rattle.am_law_effect.proofs.Lists.{rising-filter}
use Rattle.am_index_parts.specs.MergedRanges.{HasNoneBefore}
use Rattle.am_store_merge.specs.Steps.{go_on_outside}
use Rattle.am_store_merge.specs.Walks.{in_parts_from}
use Rattle.am_store_merge.proofs.Firsts.{All-passed}
use Rattle.am_store_merge.proofs.Stretches.{in_run_front}
use Rattle.am_store_merge.proofs.Walks.{le_part}

-- ---- how many lie in the range at the head of a list

module _ (test : Entry → Bool) where
  abbrev head_long : List Entry → ℕ
  head_long xs = length (take_while test xs)

  long-cons : (x : Entry) (xs : List Entry) → head_long (x ∷ xs) ≡ cond (test x) (suc (head_long xs)) 0
  long-cons x xs = ap length (take_while-cons test x xs) ∙ by (test x)
    where
      by : (b : Bool) → length (cond b (x ∷ take_while test xs) []) ≡ cond b (suc (head_long xs)) 0
      by true = refl
      by false = refl

  long-yes : (x : Entry) (xs : List Entry) → test x ≡ true → head_long (x ∷ xs) ≡ suc (head_long xs)
  long-yes x xs h = long-cons x xs ∙ cond-true (test x) (suc (head_long xs)) 0 h

  long-no : (x : Entry) (xs : List Entry) → test x ≡ false → head_long (x ∷ xs) ≡ 0
  long-no x xs h = long-cons x xs ∙ cond-false (test x) (suc (head_long xs)) 0 h

-- no more than n, where the list goes on outside after these
n_at_most : (range : Interval) (n k : ℕ) (xs : List Entry) → n < k →
    go_on_outside range (drop n (take k xs)) ≡ true → head_long (λ e. within range e.key) xs ≤ n
n_at_most range n zero xs less out = absurd (omega arith)
n_at_most range n (suc k) [] less out = least
  where
    least : 0 ≤ n
    least = omega arith
n_at_most range zero (suc k) (x ∷ xs) less out =
    omega (arith, long-no (λ e. within range e.key) x xs (not_true (within range x.key) out))
  where
    not_true : (b : Bool) → not b ≡ true → b ≡ false
    not_true true h = absurd (false≢true h)
    not_true false h = refl
n_at_most range (suc n) (suc k) (x ∷ xs) less out = ⊎_elim
    (λ yes. omega (
      arith,
      long-yes (λ e. within range e.key) x xs yes,
      n_at_most range n k xs (omega arith) out,
    ))
    (λ no. omega (arith, long-no (λ e. within range e.key) x xs no))
    (cases_Bool (within range x.key))

-- ---- candidates of later runs

module _ (run : ℕ) where
  abbrev is_its : Entry → Bool
  is_its e = e.part == run

  all_later : (c : Entry) (cs : List Entry) → IsRising (c ∷ cs) → AllByRecursion (λ e. run ≤ e.part) (c ∷ cs) →
      is_its c ≡ false → AllByRecursion (λ e. run < e.part) (c ∷ cs)
  all_later c cs rise least other =
      let apart : c.part ≢ run = λ same. both_ways (is_its c) other (eq-eqb c.part run same) in
      let up : run < c.part = omega (arith, least.0) in (
        up,
        AllByRecursion-map (λ f. place_cmp (place_of c) (place_of f) ≡ Less) (λ f. run < f.part)
            (λ f less. omega (arith, up, le_part (place_of c) (place_of f) (ap is_le less))) cs rise.0,
      )

  -- of a rising list that has no entry of an earlier run and at most n of this one, those after the first n are later
  later_behind : (n : ℕ) (cs : List Entry) → IsRising cs → AllByRecursion (λ e. run ≤ e.part) cs →
      head_long is_its cs ≤ n → AllByRecursion (λ e. run < e.part) (drop n cs)
  later_behind n [] rise least few = none n
    where
      none : (n : ℕ) → AllByRecursion (λ (e : Entry). run < e.part) (drop n [])
      none zero = tt
      none (suc n) = tt
  later_behind zero (c ∷ cs) rise least few = ⊎_elim
      (λ its. absurd (omega (arith, long-yes is_its c cs its, few)))
      (λ other. all_later c cs rise least other)
      (cases_Bool (is_its c))
  later_behind (suc n) (c ∷ cs) rise least few = ⊎_elim
      (λ its. later_behind n cs rise.1 least.1 (omega (arith, long-yes is_its c cs its, few)))
      (λ other. AllByRecursion-drop (λ e. run < e.part) n cs (all_later c cs rise least other).1)
      (cases_Bool (is_its c))

  -- where the candidates are of later runs, none before these has any
  pub none_up_to : (es : List Entry) (range : Interval) → AllByRecursion (λ e. run < e.part) (candidates es range) →
      HasNoneBefore es range (run + 1)
  none_up_to es range later =
      AllByRecursion-map (λ e. in_parts_from 1 range e ≡ true → run < e.part)
      (λ e. 0 < e.part → e.part < run + 1 → within range e.key ≡ false)
      (λ e h some less. false_from_ne_true (within range e.key)
      (λ yes. absurd (omega (
        arith,
        less,
        h (and_from (nat_le 1 e.part) (within range e.key)
            (le-leb 1 e.part (omega (arith, some))) yes),
      )))) es
      (All-passed (λ e. run < e.part) (in_parts_from 1 range) es later)

-- the first n candidates are all of the run, where it goes on outside the range after its first n entries
pub run_ends : (es : List Entry) (rise : IsRising es) (held : Holders) (range : Interval) (run : ℕ) → 1 ≤ run →
    AllByRecursion (λ e. run ≤ e.part) (candidates es range) → (n : ℕ) → n < 16 →
    go_on_outside range (drop n (take 16 (all_from es run range.lo))) ≡ true →
    AllByRecursion (λ e. run < e.part) (drop n (candidates es range))
run_ends es rise held range run is_run least n short out =
    later_behind run n (candidates es range) (rising-filter (in_parts_from 1 range) es rise) least
    (subst (λ l. length l ≤ n) (in_run_front es rise held range run is_run least)
    (n_at_most range n 16 (all_from es run range.lo) short out))
