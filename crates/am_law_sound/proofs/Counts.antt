-- How many entries stand in a run, and what was read: nothing is merged twice, and nothing that no read asked for.
use Rattle.std.proofs.Common.{◌≡◌, ◌≢◌, ◌≤◌, ◌+◌, ◌-◌, ℕ, zero, suc, List, [], ◌∷◌, ◌++◌, length, take, drop, Bool}
use Rattle.std.proofs.Common.{true, false, cond, ◌&&◌, refl, sym, ap, ◌∙◌, subst, ⊎_elim, Option, Some, None, arith}
use Rattle.std.specs.Prelude.{◌==◌, nat_le, is_none, is_some}
use Rattle.std.specs.List.{AllByRecursion}
use Rattle.std.specs.Ordering.{eq_by_cmp, is_eq, is_lt}
use Rattle.std.proofs.lemmas.Bool.{cases_Bool, cond-true, cond-false, and_parts, or_left, or_right, ne_eqb, eq-eqb}
use Rattle.std.proofs.lemmas.Bool.{eqb-true, eqb-false}
use Rattle.std.proofs.lemmas.List.Folds.{list_any-append}
use Rattle.std.proofs.lemmas.Option.{none-some}
use Rattle.am_law_effect.proofs.Lists.{All-filter}
use Rattle.am_law_effect.proofs.Maintenance.{as_many, candidates_stand, merged_rise, merged_stand, moved_bound, of_run}
use Rattle.am_law_effect.proofs.Merges.{InRuns, others_stand, rising-worked_off}
use Rattle.am_law_effect.specs.History.{gone_back, left_at, moments_since}
use Rattle.am_law_effect.specs.MergeAnswers.{Holders, MergeRight, all_worked_off, candidates, cleaned_by, merged_by}
use Rattle.am_law_effect.specs.MergeAnswers.{most}
use Rattle.am_law_effect.specs.MergeAnswers.{wishes_left, worked_off}
use Rattle.am_law_effect.specs.Places.{look, put, reslotted, with_slot}
use Rattle.am_law_effect.specs.Store.{AskedAt, EachAsked, IsRunOf, IsAsked, MayReply, Store, after_step}
use Rattle.am_law_effect.specs.Store.{all_loaded_into}
use Rattle.am_law_effect.specs.Store.{all_moved_from, asks_for, entries_after, holder, loaded_into}
use Rattle.am_law_effect.specs.Operations.{changed, find_live, new_records, Update, updates, updated, wished}
use Rattle.am_law_effect.specs.Operations.{with_ghost}
use Rattle.am_law_effect.specs.Operations.{with_ghosts, with_record, with_value}
use Rattle.am_law_effect.specs.Store.{moved_from, opened, reads, was_read, wishes_after, with_wish}
use Rattle.am_index.proofs.Edits.{find-miss, one_place}
use Rattle.am_index.specs.Content.{content}
use Rattle.am_index.specs.Entries.{IsRising, Slot, find, insert_entry, remove_entry, set_entry, slot_of}
use Rattle.am_record.specs.EntryOrder.{Place, place_cmp, place_of}
use Rattle.am_record.specs.Interval.{Interval, within}
use Rattle.am_record.specs.OrderedKey.{OrderedKey}
use Rattle.am_record.specs.Plain.{scan_rows}
use Rattle.am_record.specs.Records.{Records}
use Rattle.am_record.specs.declared.entry.Entry.{Entry}
use Rattle.am_record.specs.declared.step.Op.{Op}
use Rattle.am_record.specs.declared.step.Op.TheVariants.{Back, Delete, DeleteRange, Insert, Load, Put, Replace, Set}
use Rattle.am_record.specs.declared.step.Refusal.TheVariants.{BadLimit}
use Rattle.am_record.specs.declared.step.Reply.{Reply}
use Rattle.am_record.specs.declared.step.Reply.TheVariants.{Aborted, Cleaned, Deleted, Done, Ended, MergeDone, Moved}
use Rattle.am_record.specs.declared.step.Reply.TheVariants.{Refused}
use Rattle.am_record.specs.declared.step.Step.{Step}
use Rattle.am_record.specs.declared.step.Step.TheVariants.{Abort, Clean, Do, Merge}
use Rattle.am_record.proofs.Lists.{AllByRecursion-map, AllByRecursion-take, AllByRecursion-drop, AllByRecursion-push}
use Rattle.am_index.specs.Runs.{live_entry, with_run}
use Rattle.am_record.specs.Events.{Event}
use Rattle.am_law_serial.specs.Trace.{Trace}
use Rattle.am_law_sound.proofs.Whole.{at_start, Right, by_limit, one_more}

abbrev one_in : ℕ → Entry → ℕ
one_in run e = cond (e.part == run) 1 0

abbrev count : ℕ → List Entry → ℕ
count run [] = 0
count run (e ∷ es) = one_in run e + count run es

count-set : (run : ℕ) (es : List Entry) (p : ℕ) (k : OrderedKey) (v : List ℕ) (g : Bool) →
    count run (set_entry es p k v g) ≡ count run es
count-set run [] p k v g = refl
count-set run (e ∷ es) p k v g =
    let ih = count-set run es p k v g in
    elim (is_eq (place_cmp (place_of e) (p, k))) as
    (λ b. count run (cond b (record e { value = v; is_ghost = g } ∷ es) (e ∷ set_entry es p k v g)) ≡ one_in run e +
    count run es) [ true ↦ refl | false ↦ ap (λ n. one_in run e + n) ih ]

count-insert : (run : ℕ) (x : Entry) (es : List Entry) → count run (insert_entry es x) ≡ one_in run x + count run es
count-insert run x [] = refl
count-insert run x (e ∷ es) =
    let ih = count-insert run x es in
    elim (is_lt (place_cmp (place_of e) (place_of x))) as
    (λ b. count run (cond b (e ∷ insert_entry es x) (x ∷ e ∷ es)) ≡ one_in run x + (one_in run e + count run es))
    [ true ↦ omega arith | false ↦ refl ]

count-put : (run : ℕ) (x : Entry) (es : List Entry) → count run (put x es) ≤ one_in run x + count run es
count-put run x es =
    let a = count-set run es x.part x.key x.value x.is_ghost in
    let c = count-insert run x es in
    elim (is_some (find es x.part x.key)) as (λ b. count run
    (cond b (set_entry es x.part x.key x.value x.is_ghost) (insert_entry es x)) ≤ one_in run x + count run es)
    [ true ↦ omega arith | false ↦ omega arith ]

count-removed : (run : ℕ) (p : ℕ) (k : OrderedKey) (es : List Entry) → count run (remove_entry es p k) ≤ count run es
count-removed run p k [] = omega arith
count-removed run p k (e ∷ es) =
    let ih = count-removed run p k es in
    elim (is_eq (place_cmp (place_of e) (p, k))) as (λ b. count run (cond b es (e ∷ remove_entry es p k)) ≤ one_in run e
    + count run es) [ true ↦ omega arith | false ↦ omega arith ]

-- an entry that stands in the run is one less without it
count-without : (run : ℕ) (a : Place) (s : Slot) (es : List Entry) → a.0 ≡ run → look es a ≡ Some s →
    1 + count run (remove_entry es a.0 a.1) ≤ count run es
count-without run a s [] h e = absurd (none-some s e)
count-without run a s (x ∷ es) h e = ⊎_elim
    (λ tie.
    let same : place_of x ≡ a = one_place (place_of x) a tie in
    let here : x.part ≡ run = ap (λ (b : Place). b.0) same ∙ h in
    subst (λ b. 1 + count run (cond b es (x ∷ remove_entry es a.0 a.1)) ≤ one_in run x + count run es) (sym tie)
    (subst (λ b. 1 + count run es ≤ cond b 1 0 + count run es) (sym (eq-eqb x.part run here)) (omega arith)))
    (λ apart.
    let ih = count-without run a s es h (sym (find-miss a.0 a.1 x es apart) ∙ e) in
    subst (λ b. 1 + count run (cond b es (x ∷ remove_entry es a.0 a.1)) ≤ one_in run x + count run es) (sym apart)
    (omega arith))
    (cases_Bool (eq_by_cmp place_cmp (place_of x) a))

part-with_slot : (e : Entry) (o : Option Slot) → (with_slot e o).part ≡ e.part
part-with_slot e None = refl
part-with_slot e (Some s) = refl

count-reslotted : (run : ℕ) (f : ℕ → OrderedKey → Option Slot → Option Slot) (es : List Entry) →
    count run (reslotted f es) ≡ count run es
count-reslotted run f [] = refl
count-reslotted run f (e ∷ es) = λ i. cond (part-with_slot e (f e.part e.key (Some (slot_of e))) i == run) 1 0 +
    count-reslotted run f es i

-- ---- merges, for a run above 0

module _ (run : ℕ) (above : run ≢ 0) where
  final_apart : (e : Entry) → one_in run (record e { part = 0 }) ≡ 0
  final_apart e = cond-false (0 == run) 1 0 (ne_eqb 0 run (λ h. above (sym h)))

  count-worked_off : (e : Entry) (es : List Entry) → count run (worked_off e es) ≤ count run
      (remove_entry es e.part e.key)
  count-worked_off e es =
      let more = count-put run (record e { part = 0 }) (remove_entry es e.part e.key) in
      let zero_ = final_apart e in
      elim e.is_ghost as (λ b. count run (cond b (remove_entry es e.part e.key)
      (put (record e { part = 0 }) (remove_entry es e.part e.key))) ≤ count run (remove_entry es e.part e.key))
      [ true ↦ omega arith | false ↦ omega arith ]

  not_more : (m es : List Entry) → count run (all_worked_off m es) ≤ count run es
  not_more [] es = omega arith
  not_more (e ∷ m) es =
      let a = count-worked_off e es in
      let b = count-removed run e.part e.key es in
      let c = not_more m (worked_off e es) in
      omega arith

  all_less : (m es : List Entry) → IsRising m → IsRising es → AllByRecursion (λ e. (e.part == run) ≡ true) m →
      InRuns es m → length m + count run (all_worked_off m es) ≤ count run es
  all_less [] es r rise a s = omega arith
  all_less (e ∷ m) es r rise a s =
      let rest = all_less m (worked_off e es) r.1 (rising-worked_off e es rise) a.1
      (others_stand e es m rise r.0 s.1) in
      let one = count-without run (place_of e) (slot_of e) es (eqb-true e.part run a.0) s.0.1 in
      let w = count-worked_off e es in
      omega arith

  merge_counts : (es : List Entry) (wishes : List Interval) (held : Holders) (limit : ℕ) (reply : Reply) → IsRising es →
      MergeRight es wishes held limit reply → moved_from run (Merge limit) reply + count run
      (all_worked_off (merged_by es wishes reply) es) ≤ count run es
  merge_counts es [] held limit (Moved n r) rise h = absurd (cc)
  merge_counts es [] held limit reply rise h = omega arith
  merge_counts es (wish ∷ wishes) held limit (Moved n r) rise h =
      let bound = moved_bound es wish wishes held limit n r h in
      let cs = candidates es wish in
      let long : length (take n cs) ≡ n = as_many (λ e. (e.part == r) && is_none (held e.key)) limit n cs bound in
      let less = not_more (take n cs) es in
      ⊎_elim
      (λ yes.
      let all : AllByRecursion (λ e. (e.part == run) ≡ true) (take n cs) =
      subst (λ x. AllByRecursion (λ e. (e.part == x) ≡ true) (take n cs)) (eqb-true r run yes)
      (of_run held limit r n cs bound) in
      let out = all_less (take n cs) es (merged_rise es (wish ∷ wishes) (Moved n r) rise) rise all
      (merged_stand es (wish ∷ wishes) (Moved n r) rise) in
      subst (λ b. cond b n 0 + count run (all_worked_off (take n cs) es) ≤ count run es) (sym yes) (omega arith))
      (λ no. subst (λ b. cond b n 0 + count run (all_worked_off (take n cs) es) ≤ count run es) (sym no) (omega arith))
      (cases_Bool (r == run))
  merge_counts es (wish ∷ wishes) held limit reply rise h = omega arith

-- ---- the other steps

count-value : (run : ℕ) (o : Option Entry) (v : List ℕ) (es : List Entry) → count run (with_value o v es) ≡ count run es
count-value run None v es = refl
count-value run (Some e) v es = count-set run es e.part e.key v false

count-ghost : (run : ℕ) (o : Option Entry) (es : List Entry) → count run (with_ghost o es) ≡ count run es
count-ghost run None es = refl
count-ghost run (Some e) es = count-set run es e.part e.key e.value true

count-ghosts : (run : ℕ) (rs : Records) (es : List Entry) → count run (with_ghosts rs es) ≡ count run es
count-ghosts run [] es = refl
count-ghosts run (r ∷ rs) es = count-ghosts run rs (with_ghost (find_live es r.0) es) ∙
    count-ghost run (find_live es r.0) es

count-updated : (run : ℕ) (us : List Update) (es : List Entry) → count run (updated us es) ≡ count run es
count-updated run [] es = refl
count-updated run (u ∷ us) es = count-updated run us (with_value (Some u.0) u.1 es) ∙
    count-value run (Some u.0) u.1 es

count-with_run : (run r : ℕ) (records : Records) (es : List Entry) → count run (with_run r records es) ≤ cond (r == run)
    (length records) 0 + count run es
count-with_run run r [] es = elim (r == run) as (λ b. count run es ≤ cond b 0 0 + count run es)
    [ true ↦ omega arith | false ↦ omega arith ]
count-with_run run r (p ∷ ps) es =
    let rest = count-with_run run r ps (insert_entry es (live_entry r p)) in
    let is = count-insert run (live_entry r p) es in
    let one : count run (insert_entry es (live_entry r p)) ≤ cond (r == run) 1 0 + count run es = omega arith in
    joined (r == run) (length ps) (count run (with_run r ps (insert_entry es (live_entry r p))))
    (count run (insert_entry es (live_entry r p))) (count run es) rest one
  where
    joined : (b : Bool) (n x y z : ℕ) → x ≤ cond b n 0 + y → y ≤ cond b 1 0 + z → x ≤ cond b (suc n) 0 + z
    joined true n x y z h k = omega arith
    joined false n x y z h k = omega arith

module _ (run : ℕ) (above : run ≢ 0) where
  count-final : (k : OrderedKey) (v : List ℕ) (es : List Entry) → count run (put (live_entry 0 (k, v)) es) ≤ count run
      es
  count-final k v es =
      let one = count-put run (live_entry 0 (k, v)) es in
      let none : one_in run (live_entry 0 (k, v)) ≡ 0 = cond-false (0 == run) 1 0 (ne_eqb 0 run (λ h. above (sym h))) in
      omega arith

  count-record : (o : Option Entry) (k : OrderedKey) (v : List ℕ) (es : List Entry) →
      count run (with_record o k v es) ≤ count run es
  count-record None k v es = count-final k v es
  count-record (Some e) k v es = let same = count-value run (Some e) v es in omega arith

  count-changed : (gone : List Entry) (t runs : ℕ) (op : Op) (reply : Reply) (es : List Entry) →
      count run gone ≡ count run es → count run (changed gone runs op reply es) ≤ count run es + loaded_into run runs
      (content es) (Do t op) reply
  count-changed gone t runs (Insert k v) Done es g = let no_more = count-final k v es in omega arith
  count-changed gone t runs (Replace k v) Done es g = let same = count-value run (find_live es k) v es in omega arith
  count-changed gone t runs (Set k v) Done es g = let no_more = count-record (find_live es k) k v es in omega arith
  count-changed gone t runs (Delete k) Done es g = let same = count-ghost run (find_live es k) es in omega arith
  count-changed gone t runs (DeleteRange range max) (Deleted n) es g =
      let same = count-ghosts run (scan_rows range max (content es)) es in
      omega arith
  count-changed gone t runs (Load records) Done es g = let more = count-with_run run (runs + 1) records es in
      omega arith
  count-changed gone t runs (Put records) Done es g =
      let new : Records = new_records records (content es) in
      let more = count-with_run run (runs + 1) new es in
      let same = count-updated run (updates records es) (with_run (runs + 1) new es) in
      omega arith
  count-changed gone t runs Back Done es g = omega arith
  count-changed gone t runs op reply es g = omega arith

  -- what a step moves out of the run and what is left there is no more than what was there and what it loads
  count-step : (most_runs : ℕ) (s : Store) (step : Step) (reply : Reply) → IsRising s.entries →
      MayReply most_runs s step reply →
      moved_from run step reply + count run (entries_after s step reply) ≤ count run s.entries + loaded_into run
      s.state.runs (content s.entries) step reply
  count-step most_runs s (Do t op) reply r may = let h = count-changed (gone_back t s.past s.entries) t s.state.runs op
      reply
      s.entries (count-reslotted run (λ part key x. left_at t (part, key)
      (moments_since t s.past 0) s.entries) s.entries) in omega arith
  count-step most_runs s (Abort t) Aborted r may = let h = count-reslotted run
      (λ part key x. left_at t (part, key) s.past s.entries) s.entries in
      omega arith
  count-step most_runs s (Merge limit) reply r may = ⊎_elim
      (λ right. let h = merge_counts run above s.entries s.wishes (holder s.state.active) limit reply r right.1 in
      omega arith)
      (λ bad. subst (λ x. moved_from run (Merge limit) x + count run
      (all_worked_off (merged_by s.entries s.wishes x) s.entries) ≤ count run s.entries + 0) (sym bad.1)
      (none s.wishes))
      (by_limit limit reply (MergeRight s.entries s.wishes (holder s.state.active) limit reply) may)
    where
      none : (wishes : List Interval) → 0 + count run
          (all_worked_off (merged_by s.entries wishes (Refused BadLimit)) s.entries) ≤ count run s.entries + 0
      none [] = omega arith
      none (w ∷ ws) = omega arith
  count-step most_runs s (Clean range limit) (Cleaned n) r may =
      let h = not_more run above (cleaned_by s.entries (holder s.state.active) range (Cleaned n)) s.entries in
      omega arith
  count-step most_runs s step reply r may = omega arith

  once_from : (most_runs : ℕ) (before : Trace) (s : Store) (trace : Trace) → Right most_runs before s →
      IsRunOf most_runs s trace →
      all_moved_from run trace ≤ count run s.entries + all_loaded_into run s trace
  once_from most_runs before s [] r h = omega arith
  once_from most_runs before s (e ∷ trace) r h =
      let now = count-step most_runs s e.0 e.1 r.at.has.rising h.0 in
      let rest = once_from most_runs (before ++ e ∷ []) (after_step s e.0 e.1) trace
      (one_more most_runs before s e r h.0) h.1 in
      omega arith

-- ---- reads

abbrev Read : Trace → Interval → Type 0
Read before w = (q : OrderedKey) → within w q ≡ true → was_read q before ≡ true

later_read : (before : Trace) (e : Event) (w : Interval) → Read before w → Read (before ++ e ∷ []) w
later_read before e w h q k = list_any-append (λ (x : Event). reads q x.0 x.1) before (e ∷ []) ∙
    or_left (was_read q before) (was_read q (e ∷ [])) (h q k)

new_wish : (before : Trace) (t : ℕ) (op : Op) (reply : Reply) (wishes : List Interval) →
    AllByRecursion (Read before) wishes → AllByRecursion (Read (before ++ (Do t op, reply) ∷ []))
    (with_wish wishes (wished op reply))
new_wish before t op reply wishes h = by_wish (wished op reply) refl
  where
    old : AllByRecursion (Read (before ++ (Do t op, reply) ∷ [])) wishes
    old = AllByRecursion-map (Read before) (Read (before ++ (Do t op, reply) ∷ [])) (later_read before (Do t op, reply))
        wishes h

    by_wish : (o : Option Interval) → wished op reply ≡ o → AllByRecursion (Read (before ++ (Do t op, reply) ∷ []))
        (with_wish wishes o)
    by_wish None is = old
    by_wish (Some range) is =
        AllByRecursion-push (Read (before ++ (Do t op, reply) ∷ [])) (drop (length wishes - 63) wishes) range
        (AllByRecursion-drop (Read (before ++ (Do t op, reply) ∷ [])) (length wishes - 63) wishes old)
        (λ q k.
        list_any-append (λ (x : Event). reads q x.0 x.1) before ((Do t op, reply) ∷ [])
        ∙ or_right (was_read q before) (was_read q ((Do t op, reply) ∷ []))
        (or_left (reads q (Do t op) reply) false (ap (λ o. asks_for o q) is ∙ k)))

wishes_left_read : (before : Trace) (wishes : List Interval) (reply : Reply) → AllByRecursion (Read before) wishes →
    AllByRecursion (Read before) (wishes_left wishes reply)
wishes_left_read before wishes MergeDone h = AllByRecursion-drop (Read before) 1 wishes h
wishes_left_read before wishes (Ended k x) h = AllByRecursion-drop (Read before) 1 wishes h
wishes_left_read before wishes reply h = h

wishes_read : (before : Trace) (s : Store) (step : Step) (reply : Reply) → AllByRecursion (Read before) s.wishes →
    AllByRecursion (Read (before ++ (step, reply) ∷ [])) (wishes_after s.wishes step reply)
wishes_read before s (Do t op) reply h = new_wish before t op reply s.wishes h
wishes_read before s (Merge limit) reply h = AllByRecursion-map (Read before)
    (Read (before ++ (Merge limit, reply) ∷ [])) (later_read before (Merge limit, reply)) (wishes_left s.wishes reply)
    (wishes_left_read before s.wishes reply h)
wishes_read before s step reply h = AllByRecursion-map (Read before) (Read (before ++ (step, reply) ∷ []))
    (later_read before (step, reply)) s.wishes h

merged_read : (before : Trace) (es : List Entry) (wishes : List Interval) (reply : Reply) →
    AllByRecursion (Read before) wishes → AllByRecursion (λ e. was_read e.key before ≡ true) (merged_by es wishes reply)
merged_read before es [] reply h = tt
merged_read before es (wish ∷ wishes) (Moved n r) h =
    AllByRecursion-take (λ e. was_read e.key before ≡ true) n (candidates es wish)
    (AllByRecursion-map (λ e. Unit {0} × ((nat_le 1 e.part && within wish e.key) ≡ true))
    (λ e. was_read e.key before ≡ true) (λ e a. h.0 e.key (and_parts (nat_le 1 e.part) (within wish e.key) a.1).1)
    (candidates es wish) (All-filter (λ e. Unit {0}) (λ e. nat_le 1 e.part && within wish e.key) es (anything es)))
  where
    anything : (es : List Entry) → AllByRecursion (λ e. Unit {0}) es
    anything [] = tt
    anything (e ∷ es) = (tt, anything es)
merged_read before es (wish ∷ wishes) reply h = tt

asked_at : (before : Trace) (s : Store) (step : Step) (reply : Reply) → AllByRecursion (Read before) s.wishes →
    AskedAt before s step reply
asked_at before s (Merge limit) reply h = merged_read before s.entries s.wishes reply h
asked_at before s step reply h = tt

asked_from : (before : Trace) (s : Store) (trace : Trace) → AllByRecursion (Read before) s.wishes →
    EachAsked before s trace
asked_from before s [] h = tt
asked_from before s (e ∷ trace) h = (
  asked_at before s e.0 e.1 h,
  asked_from (before ++ e ∷ []) (after_step s e.0 e.1)
      trace (wishes_read before s e.0 e.1 h),
)

-- in partition 0 nothing is moved from
never_from_0 : (most_runs : ℕ) (before : Trace) (s : Store) (trace : Trace) → Right most_runs before s →
    IsRunOf most_runs s trace →
    all_moved_from 0 trace ≡ 0
never_from_0 most_runs before s [] r h = refl
never_from_0 most_runs before s (e ∷ trace) r h =
    let now = at_step s e.0 e.1 r.at.has.rising h.0 in
    let rest = never_from_0 most_runs (before ++ e ∷ []) (after_step s e.0 e.1) trace
    (one_more most_runs before s e r h.0) h.1 in
    omega arith
  where
    at_step : (s : Store) (step : Step) (reply : Reply) → IsRising s.entries → MayReply most_runs s step reply →
        moved_from 0 step reply ≡ 0
    at_step s (Merge limit) (Moved n r) rise may = ⊎_elim
        (λ right. by_wishes s.wishes right.1)
        (λ bad. absurd (not_bad bad.1))
        (by_limit limit (Moved n r) (MergeRight s.entries s.wishes (holder s.state.active) limit (Moved n r)) may)
      where
        not_bad : Moved n r ≡ Refused BadLimit → ⊥
        not_bad e = cc

        by_wishes : (wishes : List Interval) → MergeRight s.entries wishes (holder s.state.active) limit (Moved n r) →
            cond (r == 0) n 0 ≡ 0
        by_wishes [] e = absurd (cc)
        by_wishes (wish ∷ wishes) right = ⊎_elim
            (λ yes. cond-true (r == 0) n 0 yes ∙ none_of n (candidates s.entries wish)
            (moved_bound s.entries wish wishes (holder s.state.active) limit n r right)
            (candidates_stand s.entries wish rise) yes)
            (λ no. cond-false (r == 0) n 0 no)
            (cases_Bool (r == 0))
          where
            none_of : (n : ℕ) (cs : List Entry) → n ≤ most (holder s.state.active) limit r cs → InRuns s.entries cs →
                (r == 0) ≡ true → n ≡ 0
            none_of zero cs b st z = refl
            none_of (suc n) [] b st z = absurd (omega (
              arith,
              as_many (λ e. (e.part == r) && is_none (holder s.state.active e.key)) limit (suc n) [] b,
            ))
            none_of (suc n) (c ∷ cs) b st z = absurd (st.0.0
                (eqb-true c.part r (of_run (holder s.state.active) limit r (suc n) (c ∷ cs) b).0 ∙ eqb-true r 0 z))
    at_step s step reply rise may = refl

pub asked : (most_runs : ℕ) (trace : Trace) → IsRunOf most_runs opened trace → IsAsked trace
asked most_runs trace h = record {
  read = asked_from [] opened trace tt;
  once = λ run. ⊎_elim
      (λ yes. let none = never_from_0 most_runs [] opened trace (at_start most_runs) h in
      subst (λ r. all_moved_from r trace ≤ all_loaded_into r opened trace) (sym (eqb-true run 0 yes)) (omega arith))
      (λ no. let bound = once_from run (eqb-false run 0 no) most_runs [] opened trace (at_start most_runs) h in
      omega arith)
      (cases_Bool (run == 0));
}
