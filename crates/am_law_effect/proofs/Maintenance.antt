-- Merge and clean steps keep what they are to keep.
use Rattle.std.proofs.Common.{◌≡◌, ◌≢◌, ◌≤◌, ◌+◌, ℕ, zero, suc, List, [], ◌∷◌, length, take, Bool, true, cond, ◌&&◌}
use Rattle.std.proofs.Common.{refl, ap, ◌∙◌, subst, ⊎_elim, Option, Some, None, arith}
use Rattle.std.specs.Prelude.{◌==◌, nat_le, is_none, take_while}
use Rattle.std.specs.List.{AllByRecursion, prefix_len}
use Rattle.std.proofs.lemmas.Bool.{cases_Bool, and_parts, false≢true}
use Rattle.am_law_effect.proofs.Lists.{All-filter, rising-filter, stands_all}
use Rattle.am_law_effect.proofs.Merges.{InRuns, all_keep, all_keep_ghosts, keeps, no_more, no_more_ghost, other_keys}
use Rattle.am_law_effect.proofs.Merges.{rising-worked_off}
use Rattle.am_law_effect.specs.Laws.{Maintains}
use Rattle.am_law_effect.specs.MergeAnswers.{AnswersCandidates, AnswersFirst, Holders, MergeRight, all_worked_off}
use Rattle.am_law_effect.specs.MergeAnswers.{candidates}
use Rattle.am_law_effect.specs.MergeAnswers.{cleanable, cleaned_by, merged_by, most, worked_off}
use Rattle.am_index.specs.Entries.{IsRising}
use Rattle.am_index.proofs.Lists.{rising-take}
use Rattle.am_record.specs.Interval.{Interval, within}
use Rattle.am_record.specs.OrderedKey.{OrderedKey}
use Rattle.am_record.specs.declared.entry.Entry.{Entry}
use Rattle.am_record.specs.declared.step.Reply.{Reply}
use Rattle.am_record.specs.declared.step.Reply.TheVariants.{Cleaned, Moved}
use Rattle.am_record.proofs.Lists.{AllByRecursion-map, AllByRecursion-take}
use Rattle.am_law_effect.proofs.Lists.{Stands}

-- the first n of the list pass, where the list's beginning that passes is as long
pub passed : {X : Type 0} (p : X → Bool) (limit n : ℕ) (xs : List X) → n ≤ length (take_while p (take limit xs)) →
    AllByRecursion (λ x. p x ≡ true) (take n xs)
passed p limit zero xs h = tt
passed p limit (suc n) [] h = tt
passed p zero (suc n) (x ∷ xs) h = absurd (omega arith)
passed p (suc limit) (suc n) (x ∷ xs) h =
    ⊎_elim
    (λ yes.
    let k = prefix_len p (take limit xs) in
    let h1 : suc n ≤ length (take (1 + k) (x ∷ take limit xs)) =
    subst (λ b. suc n ≤ length (take (cond b (1 + k) 0) (x ∷ take limit xs))) yes h in
    let h2 : suc n ≤ suc (length (take k (take limit xs))) = subst (λ z. suc n ≤ length (take z (x ∷ take limit xs)))
    (one_more k) h1 in
    (yes, passed p limit n xs (less (take k (take limit xs)) h2)))
    (λ not. absurd
    (none (subst (λ b. suc n ≤ length (take (cond b (1 + prefix_len p (take limit xs)) 0) (x ∷ take limit xs))) not
    h)))
    (cases_Bool (p x))
  where
    one_more : (k : ℕ) → 1 + k ≡ suc k
    one_more k = omega arith

    none : suc n ≤ 0 → ⊥
    none e = omega arith

    less : {Y : Type 0} (ys : List Y) → suc n ≤ suc (length ys) → n ≤ length ys
    less ys e = omega arith

none_of : (o : Option ℕ) → is_none o ≡ true → o ≡ None
none_of None e = refl
none_of (Some h) e = absurd (false≢true e)

pub free_of : (held : Holders) (limit run n : ℕ) (cs : List Entry) → n ≤ most held limit run cs →
    AllByRecursion (λ e. held e.key ≡ None) (take n cs)
free_of held limit run n cs h =
    AllByRecursion-map (λ e. ((e.part == run) && is_none (held e.key)) ≡ true) (λ e. held e.key ≡ None)
    (λ e t. none_of (held e.key) (and_parts (e.part == run) (is_none (held e.key)) t).1)
    (take n cs) (passed (λ e. (e.part == run) && is_none (held e.key)) limit n cs h)

pub of_run : (held : Holders) (limit run n : ℕ) (cs : List Entry) → n ≤ most held limit run cs →
    AllByRecursion (λ e. (e.part == run) ≡ true) (take n cs)
of_run held limit run n cs h =
    AllByRecursion-map (λ e. ((e.part == run) && is_none (held e.key)) ≡ true) (λ e. (e.part == run) ≡ true)
    (λ e t. (and_parts (e.part == run) (is_none (held e.key)) t).0)
    (take n cs) (passed (λ e. (e.part == run) && is_none (held e.key)) limit n cs h)

pub as_many : {X : Type 0} (p : X → Bool) (limit n : ℕ) (xs : List X) → n ≤ length (take_while p (take limit xs)) →
    length (take n xs) ≡ n
as_many p limit zero xs h = refl
as_many p zero (suc n) [] h = absurd (none h)
  where
    none : suc n ≤ 0 → ⊥
    none e = omega arith
as_many p (suc limit) (suc n) [] h = absurd (none h)
  where
    none : suc n ≤ 0 → ⊥
    none e = omega arith
as_many p zero (suc n) (x ∷ xs) h = absurd (omega arith)
as_many p (suc limit) (suc n) (x ∷ xs) h =
    ⊎_elim
    (λ yes.
    let k = prefix_len p (take limit xs) in
    let h1 : suc n ≤ length (take (1 + k) (x ∷ take limit xs)) =
    subst (λ b. suc n ≤ length (take (cond b (1 + k) 0) (x ∷ take limit xs))) yes h in
    let h2 : suc n ≤ suc (length (take k (take limit xs))) = subst (λ z. suc n ≤ length (take z (x ∷ take limit xs)))
    (one_more k) h1 in
    ap suc (as_many p limit n xs (less (take k (take limit xs)) h2)))
    (λ not. absurd
    (none (subst (λ b. suc n ≤ length (take (cond b (1 + prefix_len p (take limit xs)) 0) (x ∷ take limit xs))) not
    h)))
    (cases_Bool (p x))
  where
    one_more : (k : ℕ) → 1 + k ≡ suc k
    one_more k = omega arith

    none : suc n ≤ 0 → ⊥
    none e = omega arith

    less : {Y : Type 0} (ys : List Y) → suc n ≤ suc (length ys) → n ≤ length ys
    less ys e = omega arith

-- a step that moves n is bounded by what may move
pub moved_bound : (es : List Entry) (wish : Interval) (wishes : List Interval) (held : Holders) (limit n run : ℕ) →
    MergeRight es (wish ∷ wishes) held limit (Moved n run) → n ≤ most held limit run (candidates es wish)
moved_bound es wish wishes held limit n run h = by_candidates (candidates es wish) h
  where
    by_holder : (c : Entry) (cs : List Entry) (o : Option ℕ) → AnswersFirst es held limit c cs o (Moved n run) →
        n ≤ most held limit run cs
    by_holder c cs (Some x) e = absurd (cc)
    by_holder c cs None e = e.1.at_most

    by_candidates : (cs : List Entry) → AnswersCandidates es held limit cs (Moved n run) → n ≤ most held limit run cs
    by_candidates [] e = absurd (cc)
    by_candidates (c ∷ cs) e = by_holder c (c ∷ cs) (held c.key) e

pub merged_free : (es : List Entry) (wishes : List Interval) (held : Holders) (limit : ℕ) (reply : Reply) →
    MergeRight es wishes held limit reply → AllByRecursion (λ e. held e.key ≡ None) (merged_by es wishes reply)
merged_free es [] held limit reply h = tt
merged_free es (wish ∷ wishes) held limit (Moved n run) h = free_of held limit run n (candidates es wish)
    (moved_bound es wish wishes held limit n run h)
merged_free es (wish ∷ wishes) held limit reply h = tt

pub above_none : (p : ℕ) → nat_le 1 p ≡ true → p ≢ 0
above_none zero e = absurd (false≢true e)
above_none (suc p) e = λ h. absurd (omega arith)

pub candidates_stand : (es : List Entry) (range : Interval) → IsRising es → InRuns es (candidates es range)
candidates_stand es range r =
    AllByRecursion-map (λ e. Stands es e × ((nat_le 1 e.part && within range e.key) ≡ true))
    (λ e. (e.part ≢ 0) × Stands es e)
    (λ e h. (above_none e.part (and_parts (nat_le 1 e.part) (within range e.key) h.1).0, h.0))
    (candidates es range) (All-filter (Stands es) (λ e. nat_le 1 e.part && within range e.key) es (stands_all es r))

pub merged_stand : (es : List Entry) (wishes : List Interval) (reply : Reply) → IsRising es →
    InRuns es (merged_by es wishes reply)
merged_stand es [] reply r = tt
merged_stand es (wish ∷ wishes) (Moved n run) r = AllByRecursion-take (λ e. (e.part ≢ 0) × Stands es e) n
    (candidates es wish) (candidates_stand es wish r)
merged_stand es (wish ∷ wishes) reply r = tt

pub merged_rise : (es : List Entry) (wishes : List Interval) (reply : Reply) → IsRising es →
    IsRising (merged_by es wishes reply)
merged_rise es [] reply r = tt
merged_rise es (wish ∷ wishes) (Moved n run) r =
    rising-take n (candidates es wish) (rising-filter (λ e. nat_le 1 e.part && within wish e.key) es r)
merged_rise es (wish ∷ wishes) reply r = tt

cleanable_stand : (es : List Entry) (held : Holders) (range : Interval) → IsRising es →
    AllByRecursion (λ e. Stands es e × ((e.is_ghost && (within range e.key && is_none (held e.key))) ≡ true))
    (cleanable es held range)
cleanable_stand es held range r = All-filter (Stands es)
    (λ e. e.is_ghost && (within range e.key && is_none (held e.key))) es (stands_all es r)

-- ---- one entry

module _ (held : Holders) (es0 : List Entry) where
  pub unchanged : IsRising es0 → Maintains held es0 es0
  unchanged r = record { rising = r; one = λ h. h; same = λ h. refl; locked = λ q h e p. refl; runs = λ p q n e. e }

  some_none : (q : OrderedKey) (h : ℕ) → held q ≡ Some h → held q ≡ None → ⊥
  some_none q h e f = absurd (cc)

  step : (e : Entry) (es : List Entry) → held e.key ≡ None → e.part ≢ 0 → Stands es e → Maintains held es0 es →
      Maintains held es0 (worked_off e es)
  step e es free n s k = record {
    rising = rising-worked_off e es k.rising;
    one = λ one. (keeps e es k.rising s (k.one one)).one_place;
    same = λ one. (keeps e es k.rising s (k.one one)).same ∙ k.same one;
    locked = λ q h is p. other_keys e es k.rising p q (λ same. some_none q h is (ap held same ∙ free)) ∙
        k.locked q h is p;
    runs = λ p q m none. no_more e es k.rising n p q m (k.runs p q m none);
  }

  step_ghost : (e : Entry) (es : List Entry) → held e.key ≡ None → e.is_ghost ≡ true → Stands es e →
      Maintains held es0 es → Maintains held es0 (worked_off e es)
  step_ghost e es free g s k = record {
    rising = rising-worked_off e es k.rising;
    one = λ one. (keeps e es k.rising s (k.one one)).one_place;
    same = λ one. (keeps e es k.rising s (k.one one)).same ∙ k.same one;
    locked = λ q h is p. other_keys e es k.rising p q (λ same. some_none q h is (ap held same ∙ free)) ∙
        k.locked q h is p;
    runs = λ p q m none. no_more_ghost e es k.rising g (p, q) (k.runs p q m none);
  }

-- a merge step maintains
pub merge_maintains : (es : List Entry) (wishes : List Interval) (held : Holders) (limit : ℕ) (reply : Reply) →
    IsRising es → MergeRight es wishes held limit reply →
    Maintains held es (all_worked_off (merged_by es wishes reply) es)
merge_maintains es wishes held limit reply r h =
    all_keep (Maintains held es) (λ e. held e.key ≡ None) (λ l k. k.rising) (step held es) (merged_by es wishes reply)
    es (merged_rise es wishes reply r) (merged_free es wishes held limit reply h) (merged_stand es wishes reply r)
    (unchanged held es r)

-- so does a clean step
pub clean_maintains : (es : List Entry) (held : Holders) (range : Interval) (n : ℕ) → IsRising es →
    Maintains held es (all_worked_off (take n (cleanable es held range)) es)
clean_maintains es held range n r =
    let test = λ (e : Entry). e.is_ghost && (within range e.key && is_none (held e.key)) in
    let all = AllByRecursion-take (λ e. Stands es e × (test e ≡ true)) n (cleanable es held range)
    (cleanable_stand es held range r) in
    all_keep_ghosts (Maintains held es) (λ e. held e.key ≡ None) (λ l k. k.rising) (step_ghost held es)
    (take n (cleanable es held range)) es
    (rising-take n (cleanable es held range) (rising-filter test es r))
    (AllByRecursion-map (λ e. Stands es e × (test e ≡ true)) (λ e. held e.key ≡ None)
    (λ e a. none_of (held e.key) (and_parts (within range e.key) (is_none (held e.key))
    (and_parts e.is_ghost (within range e.key && is_none (held e.key)) a.1).1).1) _ all)
    (AllByRecursion-map (λ e. Stands es e × (test e ≡ true)) (λ e. (e.is_ghost ≡ true) × Stands es e)
    (λ e a. ((and_parts e.is_ghost (within range e.key && is_none (held e.key)) a.1).0, a.0)) _ all)
    (unchanged held es r)

pub clean_step_maintains : (es : List Entry) (held : Holders) (range : Interval) (reply : Reply) → IsRising es →
    Maintains held es (all_worked_off (cleaned_by es held range reply) es)
clean_step_maintains es held range (Cleaned n) r = clean_maintains es held range n r
clean_step_maintains es held range reply r = unchanged held es r
