-- How far a merge step has come, from one stretch of candidates to the next.
use Rattle.std.proofs.Common.{◌≡◌, ◌≢◌, ℕ, zero, suc, ◌+◌, ◌-◌, ◌<◌, ◌≤◌, List, [], ◌∷◌, ◌++◌, length, take, drop}
use Rattle.std.proofs.Common.{Bool, true, false, Option, Some, None, refl, sym, ap, ◌∙◌, subst, ◌⊎◌, inl}
use Rattle.std.proofs.Common.{inr}
use Rattle.std.proofs.Common.{⊎_elim, arith}
use Rattle.std.specs.Prelude.{IsSome, is_some, nat_le, take_while}
use Rattle.std.specs.declared.cmp.Ordering.TheVariants.{Less, Equal}
use Rattle.std.specs.List.{AllByRecursion}
use Rattle.std.specs.Ordering.{is_le}
use Rattle.std.proofs.Math.Seq.{take-add}
use Rattle.std.proofs.lemmas.Bool.{cases_Bool, cond-true, cond-false, and_parts, false≢true}
use Rattle.std.proofs.lemmas.List.{take-append-drop, drop-take, drop-drop, take-take}
use Rattle.am_record.specs.OrderedKey.{OrderedKey}
use Rattle.am_record.specs.Interval.{Interval, within}
use Rattle.am_record.specs.EntryOrder.{Place, place_of, place_cmp}
use Rattle.am_record.specs.declared.entry.Entry.{Entry}
use Rattle.am_record.proofs.Lists.{AllByRecursion-map, AllByRecursion-take, AllByRecursion-drop, AllByRecursion-back}
use Rattle.am_index.specs.Entries.{Slot, slot_of, all_from, first_such, find, remove_entry, IsRising}
use Rattle.am_index.specs.Edits.{same_place}
use Rattle.am_index.specs.Rooms.{is_among, HaveRoom, KeepRoom, needs_room}
use Rattle.am_index.proofs.Edits.{apart_places, other_part, place_cmp-itself}
use Rattle.am_index.proofs.Rooms.{keep_on}
use Rattle.am_law_effect.specs.MergeAnswers.{Holders, candidates, worked_off, all_worked_off, most, NeedsRoom}
use Rattle.am_law_effect.specs.MergeAnswers.{FirstMoveNeedsRoom}
use Rattle.am_law_effect.specs.Places.{look, put}
use Rattle.am_law_effect.proofs.Lists.{Stands, stands_all, All-filter, rising-filter, look-put, look-removed}
use Rattle.am_law_effect.proofs.Merges.{rising-worked_off, other_keys}
use Rattle.am_law_effect.proofs.Maintenance.{above_none}
use Rattle.am_law_effect.proofs.Next.{candidates-left}
use Rattle.am_index_parts.specs.Partitions.{AreWellFormed, all_gone_home, IsStretch as IsStretchOf}
use Rattle.am_index_parts.specs.Partitions.{FirstNeedsRoom}
use Rattle.am_index_parts.specs.MergedRanges.{HasNoneBefore}
use Rattle.am_index_parts.proofs.Neighbours.{absent_unless}
use Rattle.am_store_merge.specs.Walks.{in_parts_from}
use Rattle.am_store_merge.specs.Steps.{IsAsFar, is_free_in, go_on_outside}
use Rattle.am_store_merge.proofs.Firsts.{first_head, a_head, All-zip}
use Rattle.am_store_merge.proofs.EntriesGoHome.{ghost_goes, all_home}
use Rattle.am_store_merge.proofs.Walks.{le_part}
use Rattle.am_store_merge.proofs.PassingPrefixes.{passing, passing_on, within_limit}
use Rattle.am_store_merge.proofs.Rooms.{runs_stood}
use Rattle.am_store_merge.proofs.LeftRuns.{run_ends, none_up_to}
use Rattle.am_store_merge.proofs.Stretches.{may_move, front_of_front, IsStretch, read_stretch}

abbrev is_candidate : Interval → Entry → Bool
is_candidate range e = in_parts_from 1 range e

-- ---- nothing goes out of partition 0

home_grows : (e : Entry) (es : List Entry) → IsRising es → e.part ≢ 0 → (k : OrderedKey) →
    find (worked_off e es) 0 k ≡ None → find es 0 k ≡ None
home_grows e es rise n k none =
    let without = look-removed (place_of e) es rise (0, k) ∙
    cond-false _ None (look es (0, k)) (apart_places (0, k) (place_of e)
    (λ h. n (sym (ap (λ (a : Place). a.0) h)))) in
    by_mark e.is_ghost refl without
  where
    final : Entry
    final = record e { part = 0 }

    by_mark : (g : Bool) → e.is_ghost ≡ g → look (remove_entry es e.part e.key) (0, k) ≡ look es (0, k) →
        find es 0 k ≡ None
    by_mark true g same = sym same ∙ ap (λ l. find l 0 k)
        (sym (cond-true e.is_ghost (remove_entry es e.part e.key) (put final (remove_entry es e.part e.key)) g)) ∙ none
    by_mark false g same =
        let there = sym (look-put final (remove_entry es e.part e.key) (0, k)) ∙
        ap (λ l. find l 0 k) (sym (cond-false e.is_ghost (remove_entry es e.part e.key)
        (put final (remove_entry es e.part e.key)) g)) ∙ none in
        sym same ∙ absent_unless (same_place 0 k 0 e.key) (slot_of e) (look (remove_entry es e.part e.key) (0, k)) there

all_home_grows : (m es : List Entry) → IsRising es → AllByRecursion (λ e. e.part ≢ 0) m → (k : OrderedKey) →
    find (all_worked_off m es) 0 k ≡ None → find es 0 k ≡ None
all_home_grows [] es rise n k none = none
all_home_grows (e ∷ m) es rise n k none = home_grows e es rise n.0 k
    (all_home_grows m (worked_off e es) (rising-worked_off e es rise) n.1 k none)

-- so what stands there goes on standing
final_stands : (m es : List Entry) → IsRising es → AllByRecursion (λ e. e.part ≢ 0) m → (k : OrderedKey) →
    IsSome (find es 0 k) → IsSome (find (all_worked_off m es) 0 k)
final_stands m es rise runs k there = by_slot (find (all_worked_off m es) 0 k) refl
  where
    by_slot : (o : Option Slot) → find (all_worked_off m es) 0 k ≡ o → IsSome (find (all_worked_off m es) 0 k)
    by_slot (Some s) h = ap is_some h
    by_slot None h = absurd (false≢true (sym (ap is_some (all_home_grows m es rise runs k h)) ∙ there))

rising-all_worked_off : (m es : List Entry) → IsRising es → IsRising (all_worked_off m es)
rising-all_worked_off [] es rise = rise
rising-all_worked_off (e ∷ m) es rise = rising-all_worked_off m (worked_off e es) (rising-worked_off e es rise)

-- ---- what a stretch needs

-- the candidates stand in runs
candidates_run : (es : List Entry) (range : Interval) → IsRising es → AllByRecursion (λ f. f.part ≢ 0)
    (candidates es range)
candidates_run es range rise =
    AllByRecursion-map (λ f. Stands es f × (is_candidate range f ≡ true)) (λ f. f.part ≢ 0)
    (λ f h. above_none f.part (and_parts (nat_le 1 f.part) (within range f.key) h.1).0)
    (candidates es range) (All-filter (Stands es) (is_candidate range) es (stands_all es rise))

-- ---- what needs room

-- a ghost that goes, and one of another key, change nothing of the key in partition 0
home_beside : (e : Entry) (es : List Entry) → IsRising es → e.part ≢ 0 → (k : OrderedKey) →
    (e.is_ghost ≡ false → k ≢ e.key) → find (worked_off e es) 0 k ≡ find es 0 k
home_beside e es rise run k apart = ⊎_elim
    (λ g. ap (λ l. find l 0 k) (sym (ghost_goes e es g)) ∙ look-removed (place_of e) es rise (0, k) ∙
    cond-false _ None (look es (0, k)) (other_part 0 e.part k e.key (λ h. run (sym h))))
    (λ live. other_keys e es rise 0 k (apart live))
    (cases_Bool e.is_ghost)

all_home_beside : (m es : List Entry) → IsRising es → (k : OrderedKey) →
    AllByRecursion (λ e. (e.part ≢ 0) × (e.is_ghost ≡ false → k ≢ e.key)) m → find (all_worked_off m es) 0 k ≡
    find es 0 k
all_home_beside [] es rise k all = refl
all_home_beside (e ∷ m) es rise k all = all_home_beside m (worked_off e es) (rising-worked_off e es rise) k all.1 ∙
    home_beside e es rise all.0.0 k all.0.1

-- what rises up to one of its entries is below it
below_it : (front : List Entry) (c : Entry) (back : List Entry) → IsRising (front ++ c ∷ back) →
    AllByRecursion (λ e. place_cmp (place_of e) (place_of c) ≡ Less) front
below_it [] c back rise = tt
below_it (e ∷ front) c back rise = (
  (AllByRecursion-back (λ f. place_cmp (place_of e) (place_of f) ≡ Less) front (c ∷ back) rise.0).0,
  below_it front c back rise.1,
)

module _ {es : List Entry} (sound : AreWellFormed es) (range : Interval) (n m : ℕ) (fewer : n ≤ m) (c : Entry)
    (rest : List Entry) (at : drop m (candidates es range) ≡ c ∷ rest) where
  abbrev ours : List Entry
  ours = candidates es range

  ours_are : ours ≡ take m ours ++ c ∷ rest
  ours_are = sym (take-append-drop m ours) ∙ ap (λ l. take m ours ++ l) at

  ours_stand : AllByRecursion (λ e. Stands es e × (is_candidate range e ≡ true)) ours
  ours_stand = All-filter (Stands es) (is_candidate range) es (stands_all es sound.rising)

  c_stands : Stands es c
  c_stands = (subst (AllByRecursion (λ e. Stands es e × (is_candidate range e ≡ true))) at
      (AllByRecursion-drop (λ e. Stands es e × (is_candidate range e ≡ true)) m ours ours_stand)).0.0

  firsts_below : AllByRecursion (λ e. place_cmp (place_of e) (place_of c) ≡ Less) (take n ours)
  firsts_below = subst (AllByRecursion (λ e. place_cmp (place_of e) (place_of c) ≡ Less)) (take-take n m ours fewer)
      (AllByRecursion-take (λ e. place_cmp (place_of e) (place_of c) ≡ Less) n (take m ours)
      (below_it (take m ours) c rest (subst IsRising ours_are (rising-filter (is_candidate range) es sound.rising))))

  -- of a live entry's key none that is live stands before it
  firsts_beside : c.is_ghost ≡ false → AllByRecursion (λ e. (e.part ≢ 0) × (e.is_ghost ≡ false → c.key ≢ e.key))
      (take n ours)
  firsts_beside live =
      AllByRecursion-map (λ e. (place_cmp (place_of e) (place_of c) ≡ Less) × (Stands es e × (e.part ≢ 0)))
      (λ e. (e.part ≢ 0) × (e.is_ghost ≡ false → c.key ≢ e.key))
      (λ e h. (h.1.1, λ mark same. absurd (two e h.0 h.1.0 mark same)))
      (take n ours) (All-zip _ _ (take n ours) firsts_below (All-zip _ _ (take n ours)
      (AllByRecursion-map (λ e. Stands es e × (is_candidate range e ≡ true)) (Stands es) (λ e h. h.0) (take n ours)
      (AllByRecursion-take (λ e. Stands es e × (is_candidate range e ≡ true)) n ours ours_stand))
      (AllByRecursion-take (λ e. e.part ≢ 0) n ours (candidates_run es range sound.rising))))
    where
      two : (e : Entry) → place_cmp (place_of e) (place_of c) ≡ Less → Stands es e → e.is_ghost ≡ false →
          c.key ≡ e.key → ⊥
      two e less stands mark same =
          let one = sound.one_place.one c.key e.part c.part e.value c.value
          (record { there = ap (find es e.part) same ∙ stands ∙ ap (λ g. Some (e.value, g)) mark })
          (record { there = c_stands ∙ ap (λ g. Some (c.value, g)) live }) in
          let tied : place_cmp (place_of e) (place_of c) ≡ Equal = (λ i. place_cmp (one i, sym same i) (place_of c)) ∙
          place_cmp-itself (place_of c) in
          absurd (cc (sym less ∙ tied))

  needed_before : NeedsRoom (all_worked_off (take n ours) es) c → NeedsRoom es c
  needed_before needs = (
    needs.0,
    ap (λ o. needs_room o c.value) (sym (all_home_beside (take n ours) es sound.rising c.key (firsts_beside needs.0))) ∙
        needs.1,
  )

-- what needs room after the first n of them needed it before
first_grows : {es : List Entry} → AreWellFormed es → (range : Interval) (n m : ℕ) → n ≤ m → (cs : List Entry) →
    drop m (candidates es range) ≡ cs →
    FirstMoveNeedsRoom (all_worked_off (take n (candidates es range)) es) cs → FirstMoveNeedsRoom es cs
first_grows sound range n m fewer [] at needs = needs
first_grows sound range n m fewer (c ∷ cs) at needs = needed_before sound range n m fewer c cs at needs

first_taken : (es : List Entry) (k : ℕ) (cs : List Entry) → FirstMoveNeedsRoom es (take k cs) → FirstMoveNeedsRoom es cs
first_taken es zero cs needs = absurd needs
first_taken es (suc k) [] needs = absurd needs
first_taken es (suc k) (c ∷ cs) needs = needs

-- what stays in its run for want of room needs it in partition 0
needs_home : (es cs : List Entry) → FirstNeedsRoom es cs → FirstMoveNeedsRoom es cs
needs_home es [] needs = needs
needs_home es (c ∷ cs) needs = needs

-- ---- from one stretch to the next

all_worked_off-append : (xs ys es : List Entry) → all_worked_off (xs ++ ys) es ≡ all_worked_off ys
    (all_worked_off xs es)
all_worked_off-append [] ys es = refl
all_worked_off-append (x ∷ xs) ys es = all_worked_off-append xs ys (worked_off x es)

-- n candidates are worked off, all of them of the run and free
pub record IsOnTheWay (es : List Entry) (held : Holders) (limit run : ℕ) (range : Interval) (cur : List Entry)
    (n : ℕ) : Type 0 where
  pub at_most : n ≤ most held limit run (candidates es range)
  pub entries : cur ≡ all_worked_off (take n (candidates es range)) es

module _ {es : List Entry} (sound : AreWellFormed es) (held : Holders) (limit : ℕ) (range : Interval) where
  pub starts : (run : ℕ) → IsOnTheWay es held limit run range es 0
  starts run = record { at_most = omega arith; entries = refl }

  -- the first candidate stands in a run, and no other one before it
  module _ (first : Entry) (found : first_such (is_candidate range) es ≡ Some first) where
    begins : (rest : List Entry) × (candidates es range ≡ first ∷ rest)
    begins = a_head (candidates es range) first (sym (first_head (is_candidate range) es) ∙ found)

    pub first_run : 1 ≤ first.part
    first_run =
        let run : first.part ≢ 0 = (subst (AllByRecursion (λ f. f.part ≢ 0)) begins.1
        (candidates_run es range sound.rising)).0 in omega arith

    rises : IsRising (first ∷ begins.0)
    rises = subst IsRising begins.1 (rising-filter (is_candidate range) es sound.rising)

    none_before : AllByRecursion (λ e. first.part ≤ e.part) (candidates es range)
    none_before = subst (AllByRecursion (λ e. first.part ≤ e.part)) (sym begins.1) (
      omega arith,
      AllByRecursion-map (λ f. place_cmp (place_of first) (place_of f) ≡ Less) (λ f. first.part ≤ f.part)
          (λ f less. le_part (place_of first) (place_of f) (ap is_le less)) begins.0 rises.0,
    )

  module _ {run n : ℕ} {cur : List Entry} (way : IsOnTheWay es held limit run range cur n) where
    cur_rising : IsRising cur
    cur_rising = subst IsRising (sym way.entries)
        (rising-all_worked_off (take n (candidates es range)) es sound.rising)

    cur_candidates : candidates cur range ≡ drop n (candidates es range)
    cur_candidates = ap (λ l. candidates l range) way.entries ∙
        candidates-left range n es (candidates es range) sound.rising refl

    -- what is read of the run is the next stretch of candidates
    module _ (first : Entry) (found : first_such (is_candidate range) es ≡ Some first) (at : first.part ≡ run)
        (left free : ℕ) (batch : List Entry) (read : batch ≡ take 16 (all_from cur run range.lo)) where
      still_none_before : AllByRecursion (λ e. run ≤ e.part) (candidates cur range)
      still_none_before =
          subst (AllByRecursion (λ e. run ≤ e.part)) (sym cur_candidates)
          (AllByRecursion-drop (λ e. run ≤ e.part) n (candidates es range)
          (subst (λ r. AllByRecursion (λ e. r ≤ e.part) (candidates es range)) at (none_before first found)))

      pub stands_first : IsStretchOf cur (take free batch)
      stands_first = record {
        run = run;
        key = range.lo;
        is_run = subst (λ r. 1 ≤ r) at (first_run first found);
        first = subst (λ l. take free l ≡ take (length (take free l)) (all_from cur run range.lo)) (sym read)
            (front_of_front free 16 (all_from cur run range.lo));
      }

      pub is_stretch : free ≡ length (take_while (is_free_in held range) (take left batch)) →
          IsStretch cur held run range left (take free batch)
      is_stretch counted = read_stretch cur cur_rising held range run (subst (λ r. 1 ≤ r) at (first_run first found))
          still_none_before left batch free read counted

      -- where the batch goes on outside the range after those that went home, nothing is left up to the run
      pub has_none_left : (count m : ℕ) (cur' : List Entry) → count < 16 → m ≡ n + count →
          IsOnTheWay es held limit run range cur' m → go_on_outside range (drop count batch) ≡ true →
          HasNoneBefore cur' range (run + 1)
      has_none_left count m cur' short sum on out =
          let left_then : drop count (candidates cur range) ≡ candidates cur' range =
          ap (drop count) cur_candidates ∙ drop-drop count n (candidates es range) ∙
          ap (λ i. drop i (candidates es range)) (sym sum) ∙
          sym (ap (λ l. candidates l range) on.entries ∙
          candidates-left range m es (candidates es range) sound.rising refl) in
          none_up_to run cur' range (subst (AllByRecursion (λ e. run < e.part)) left_then
          (run_ends cur cur_rising held range run (subst (λ r. 1 ≤ r) at (first_run first found)) still_none_before
          count short (subst (λ l. go_on_outside range (drop count l) ≡ true) read out)))

    -- at the limit
    pub is_full : limit ≤ n → IsAsFar es held limit run (candidates es range) n
    is_full at = record {
      at_most = way.at_most;
      greatest = inl (omega (arith, way.at_most, at, within_limit (may_move held run) limit (candidates es range)));
    }

    -- so many of the next stretch, which is all that may be moved and that was read, are worked off
    module _ (left : ℕ) (all : limit ≡ n + left) (xs : List Entry) (next : IsStretch cur held run range left xs)
        (count : ℕ) (some : count ≤ length xs) where
      -- as many of them as went home
      gone : all_gone_home (take count xs) cur ≡ all_worked_off (take count xs) cur
      gone = all_home (take count xs) cur cur_rising (AllByRecursion-take (λ e. e.part ≢ 0) count xs
          (subst (AllByRecursion (λ e. e.part ≢ 0)) (sym next.first) (AllByRecursion-take (λ e. e.part ≢ 0) (length xs)
          (candidates cur range) (candidates_run cur range cur_rising))))

      many : most held limit run (candidates es range) ≡ n + passing (may_move held run) left (candidates cur range)
      many = passing_on (may_move held run) n left limit (candidates es range) all way.at_most ∙
          ap (λ l. n + passing (may_move held run) left l) (sym cur_candidates)

      pub stays_within : n + count ≤ most held limit run (candidates es range)
      stays_within = omega (arith, many, next.long, some)

      pub within_all : n + count ≤ limit
      within_all = omega (arith, stays_within, within_limit (may_move held run) limit (candidates es range))

      pub goes_on : (m : ℕ) (cur' : List Entry) → m ≡ n + count → cur' ≡ all_gone_home (take count xs) cur →
          IsOnTheWay es held limit run range cur' m
      goes_on m cur' sum worked = record {
        at_most = omega (arith, stays_within, sum);
        entries = worked ∙ gone ∙ ap (λ l. all_worked_off l cur) (ap (take count) next.first ∙
            take-take count (length xs) (candidates cur range) some ∙ ap (take count) cur_candidates)
            ∙ ap (all_worked_off (take count (drop n (candidates es range)))) way.entries
            ∙ sym (all_worked_off-append (take n (candidates es range)) (take count (drop n (candidates es range))) es)
            ∙ ap (λ l. all_worked_off l es) (sym (take-add n count (candidates es range)))
            ∙ ap (λ i. all_worked_off (take i (candidates es range)) es) (sym sum);
      }

      -- room that was kept so far is kept on: in partition 0 what stood at first stands all the while, and nothing
      -- comes
      -- into a run
      pub keeps_room : (a b c : List Place) (cur' : List Entry) → cur' ≡ all_gone_home (take count xs) cur →
          HaveRoom es a → KeepRoom a b cur → KeepRoom b c cur' → KeepRoom a c cur'
      keeps_room a b c cur' worked have first second = keep_on a b c cur cur' first second stood
        where
          stood : (p : ℕ) (k : OrderedKey) → is_among a p k ≡ true → IsSome (find cur' p k) → IsSome (find cur p k)
          stood zero k among stands = subst (λ (l : List Entry). IsSome (find l 0 k)) (sym way.entries)
              (final_stands (take n (candidates es range)) es sound.rising
              (AllByRecursion-take (λ e. e.part ≢ 0) n (candidates es range) (candidates_run es range sound.rising)) k
              (have.places 0 k among))
          stood (suc p) k among stands = runs_stood (take count xs) cur cur_rising (suc p)
              (λ h. absurd (omega (arith, h)))
              k (subst (λ (l : List Entry). IsSome (find l (suc p) k)) (worked ∙ gone) stands)

      pub ends : (m : ℕ) → m ≡ n + count → count < 16 → (count ≡ length xs) ⊎ FirstNeedsRoom cur (drop count xs) →
          IsAsFar es held limit run (candidates es range) m
      ends m sum short greatest = record {
        at_most = omega (arith, stays_within, sum);
        greatest = ⊎_elim (λ whole. inl (omega (arith, many, next.long, whole, short, sum)))
            (λ new. inr (refused (needs_home cur (drop count xs) new))) greatest;
      }
        where
          refused : FirstMoveNeedsRoom cur (drop count xs) → FirstMoveNeedsRoom es (drop m (candidates es range))
          refused needs =
              let split : length xs ≡ count + (length xs - count) = omega (arith, some) in
              let there : drop count xs ≡ take (length xs - count) (drop count (candidates cur range)) =
              ap (drop count) next.first ∙ ap (λ i. drop count (take i (candidates cur range))) split ∙
              drop-take count (length xs - count) (candidates cur range) in
              let behind : drop count (candidates cur range) ≡ drop m (candidates es range) =
              ap (drop count) cur_candidates ∙ drop-drop count n (candidates es range) ∙
              ap (λ i. drop i (candidates es range)) (sym sum) in
              first_grows sound range n m (omega (arith, sum)) (drop m (candidates es range)) refl
              (subst (λ l. FirstMoveNeedsRoom l (drop m (candidates es range))) way.entries
              (subst (FirstMoveNeedsRoom cur) behind
              (first_taken cur (length xs - count) (drop count (candidates cur range))
              (subst (FirstMoveNeedsRoom cur) there needs))))
