-- No entry stands under a key that no operation wrote.
use Rattle.std.proofs.Common.{ℕ, ◌+◌, zero, suc, List, [], ◌∷◌, Bool, true, false, take, filter, Option, Some, None}
use Rattle.std.specs.Prelude.{is_some, not, if◌then◌else◌}
use Rattle.std.specs.Ordering.{is_eq, is_lt}
use Rattle.std.specs.List.{AllByRecursion}
use Rattle.std.specs.FinMap.{contains_key}
use Rattle.std.proofs.lemmas.Bool.{cond_both}
use Rattle.am_record.specs.OrderedKey.{OrderedKey}
use Rattle.am_record.specs.EntryOrder.{place_of, place_cmp}
use Rattle.am_record.specs.Interval.{Interval}
use Rattle.am_record.specs.Records.{Records}
use Rattle.am_record.specs.Plain.{PlainMap, scan_rows}
use Rattle.am_record.specs.declared.entry.Entry.{Entry}
use Rattle.am_record.specs.declared.step.Op.{Op}
use Rattle.am_record.specs.declared.step.Op.TheVariants as op
use Rattle.am_record.specs.declared.step.Step.{Step}
use Rattle.am_record.specs.declared.step.Step.TheVariants as step
use Rattle.am_record.specs.declared.step.Reply.{Reply}
use Rattle.am_record.specs.declared.step.Reply.TheVariants as reply
use Rattle.am_index.specs.Entries.{Slot, slot_of, find, insert_entry, set_entry, remove_entry}
use Rattle.am_index.specs.Content.{content}
use Rattle.am_index.specs.Runs.{live_entry, with_run}
use Rattle.am_law_serial.specs.Trace.{Trace}
use Rattle.am_law_effect.specs.Places.{put, with_slot, reslotted}
use Rattle.am_law_effect.specs.MergeAnswers.{candidates, worked_off, all_worked_off, merged_by, cleanable}
use Rattle.am_law_effect.specs.History.{left_at, moments_since, gone_back}
use Rattle.am_law_effect.specs.Store.{Store, entries_after, after_step, after_all, holder}
use Rattle.am_law_effect.specs.Operations.{find_live, with_value, with_ghost, with_record, with_ghosts, changed}
use Rattle.am_law_effect.specs.Operations.{new_records, Update, updates, updated}
use Rattle.am_law_effect.specs.WrittenKeys.{WritesKeys, StepWritesKeys, TraceWritesKeys, HaveKeys}

module _ (P : OrderedKey → Type 0) where
  either : (b : Bool) (es fs : List Entry) → HaveKeys P es → HaveKeys P fs → HaveKeys P (if b then es else fs)
  either true es fs h k = h
  either false es fs h k = k

  inserted : (es : List Entry) (x : Entry) → P x.key → HaveKeys P es → HaveKeys P (insert_entry es x)
  inserted [] x p h = (p, tt)
  inserted (e ∷ es) x p h = either (is_lt (place_cmp (place_of e) (place_of x))) (e ∷ insert_entry es x) (x ∷ e ∷ es)
      (h.0, inserted es x p h.1) (p, h)

  set : (es : List Entry) (part : ℕ) (key : OrderedKey) (value : List ℕ) (is_ghost : Bool) → HaveKeys P es →
      HaveKeys P (set_entry es part key value is_ghost)
  set [] part key value is_ghost h = tt
  set (e ∷ es) part key value is_ghost h = either (is_eq (place_cmp (place_of e) (part, key)))
      (record e { value = value; is_ghost = is_ghost } ∷ es) (e ∷ set_entry es part key value is_ghost) h
      (h.0, set es part key value is_ghost h.1)

  removed : (es : List Entry) (part : ℕ) (key : OrderedKey) → HaveKeys P es → HaveKeys P (remove_entry es part key)
  removed [] part key h = tt
  removed (e ∷ es) part key h = either (is_eq (place_cmp (place_of e) (part, key))) es (e ∷ remove_entry es part key)
      h.1 (h.0, removed es part key h.1)

  was_put : (x : Entry) (es : List Entry) → P x.key → HaveKeys P es → HaveKeys P (put x es)
  was_put x es p h = either (is_some (find es x.part x.key)) (set_entry es x.part x.key x.value x.is_ghost)
      (insert_entry es x) (set es x.part x.key x.value x.is_ghost h) (inserted es x p h)

  slotted : (e : Entry) (s : Option Slot) → P e.key → P (with_slot e s).key
  slotted e None p = p
  slotted e (Some s) p = p

  reslots : (f : ℕ → OrderedKey → Option Slot → Option Slot) (es : List Entry) → HaveKeys P es →
      HaveKeys P (reslotted f es)
  reslots f [] h = tt
  reslots f (e ∷ es) h = (slotted e (f e.part e.key (Some (slot_of e))) h.0, reslots f es h.1)

  run : (part : ℕ) (rs : Records) (es : List Entry) → AllByRecursion (λ (r : OrderedKey × List ℕ). P r.0) rs →
      HaveKeys P es → HaveKeys P (with_run part rs es)
  run part [] es p h = h
  run part (r ∷ rs) es p h = run part rs (insert_entry es (live_entry part r)) p.1
      (inserted es (live_entry part r) p.0 h)

  off : (e : Entry) (es : List Entry) → P e.key → HaveKeys P es → HaveKeys P (worked_off e es)
  off e es p h = either e.is_ghost (remove_entry es e.part e.key)
      (put (record e { part = 0 }) (remove_entry es e.part e.key)) (removed es e.part e.key h)
      (was_put (record e { part = 0 }) (remove_entry es e.part e.key) p (removed es e.part e.key h))

  all_off : (more es : List Entry) → HaveKeys P more → HaveKeys P es → HaveKeys P (all_worked_off more es)
  all_off [] es p h = h
  all_off (e ∷ more) es p h = all_off more (worked_off e es) p.1 (off e es p.0 h)

  some_of : (n : ℕ) (es : List Entry) → HaveKeys P es → HaveKeys P (take n es)
  some_of zero es h = tt
  some_of (suc n) [] h = tt
  some_of (suc n) (e ∷ es) h = (h.0, some_of n es h.1)

  filtered : (test : Entry → Bool) (es : List Entry) → HaveKeys P es → HaveKeys P (filter test es)
  filtered test [] h = tt
  filtered test (e ∷ es) h = either (test e) (e ∷ filter test es) (filter test es) (h.0, filtered test es h.1)
      (filtered test es h.1)

  merged : (es : List Entry) (wishes : List Interval) (r : Reply) → HaveKeys P es → HaveKeys P (merged_by es wishes r)
  merged es [] r h = tt
  merged es (wish ∷ wishes) (reply.Moved n run) h = some_of n (candidates es wish) (filtered _ es h)
  merged es (wish ∷ wishes) _ h = tt

  valued : (o : Option Entry) (v : List ℕ) (es : List Entry) → HaveKeys P es → HaveKeys P (with_value o v es)
  valued None v es h = h
  valued (Some e) v es h = set es e.part e.key v false h

  ghosted : (o : Option Entry) (es : List Entry) → HaveKeys P es → HaveKeys P (with_ghost o es)
  ghosted None es h = h
  ghosted (Some e) es h = set es e.part e.key e.value true h

  recorded : (o : Option Entry) (k : OrderedKey) (v : List ℕ) (es : List Entry) → P k → HaveKeys P es →
      HaveKeys P (with_record o k v es)
  recorded None k v es p h = was_put (live_entry 0 (k, v)) es p h
  recorded (Some e) k v es p h = valued (Some e) v es h

  all_ghosted : (rs : Records) (es : List Entry) → HaveKeys P es → HaveKeys P (with_ghosts rs es)
  all_ghosted [] es h = h
  all_ghosted (r ∷ rs) es h = all_ghosted rs (with_ghost (find_live es r.0) es) (ghosted (find_live es r.0) es h)

  all_valued : (us : List Update) (es : List Entry) → HaveKeys P es → HaveKeys P (updated us es)
  all_valued [] es h = h
  all_valued (u ∷ us) es h = all_valued us (with_value (Some u.0) u.1 es) (valued (Some u.0) u.1 es h)

  of_new : (rs : Records) (m : PlainMap) → AllByRecursion (λ (r : OrderedKey × List ℕ). P r.0) rs →
      AllByRecursion (λ (r : OrderedKey × List ℕ). P r.0) (new_records rs m)
  of_new [] m p = tt
  of_new (r ∷ rs) m p =
      let rest = new_records rs m in
      cond_both (not (contains_key m r.0)) (r ∷ rest) rest (AllByRecursion (λ (x : OrderedKey × List ℕ). P x.0))
      (λ yes. (p.0, of_new rs m p.1)) (λ no. of_new rs m p.1)

  after_op : (back : List Entry) (runs : ℕ) (o : Op) (r : Reply) (es : List Entry) → WritesKeys P o → HaveKeys P back →
      HaveKeys P es → HaveKeys P (changed back runs o r es)
  after_op back runs (op.Insert k v) reply.Done es p b h = was_put (live_entry 0 (k, v)) es p h
  after_op back runs (op.Replace k v) reply.Done es p b h = valued (find_live es k) v es h
  after_op back runs (op.Set k v) reply.Done es p b h = recorded (find_live es k) k v es p h
  after_op back runs (op.Delete k) reply.Done es p b h = ghosted (find_live es k) es h
  after_op back runs (op.DeleteRange range max) (reply.Deleted n) es p b h =
      all_ghosted (scan_rows range max (content es)) es h
  after_op back runs (op.Load records) reply.Done es p b h = run (runs + 1) records es p h
  after_op back runs (op.Put records) reply.Done es p b h =
      let new : Records = new_records records (content es) in
      all_valued (updates records es) (with_run (runs + 1) new es)
      (run (runs + 1) new es (of_new records (content es) p) h)
  after_op back runs op.Back reply.Done es p b h = b
  after_op back runs _ _ es p b h = h

  after_one : (s : Store) (what : Step) (r : Reply) → StepWritesKeys P what → HaveKeys P s.entries →
      HaveKeys P (entries_after s what r)
  after_one s (step.Do t o) r p h = after_op (gone_back t s.past s.entries) s.state.runs o r s.entries p
      (reslots (λ part key x. left_at t (part, key) (moments_since t s.past 0) s.entries) s.entries h) h
  after_one s (step.Abort t) reply.Aborted p h = reslots (λ part key x. left_at t (part, key) s.past s.entries)
      s.entries h
  after_one s (step.Merge limit) r p h = all_off (merged_by s.entries s.wishes r) s.entries
      (merged s.entries s.wishes r h) h
  after_one s (step.Clean range limit) (reply.Cleaned n) p h =
      all_off (take n (cleanable s.entries (holder s.state.active) range)) s.entries
      (some_of n (cleanable s.entries (holder s.state.active) range) (filtered _ s.entries h)) h
  after_one s _ _ p h = h

  pub keys_written : (trace : Trace) (s : Store) → TraceWritesKeys P trace → HaveKeys P s.entries →
      HaveKeys P (after_all s trace).entries
  keys_written [] s p h = h
  keys_written (e ∷ trace) s p h = keys_written trace (after_step s e.0 e.1) p.1 (after_one s e.0 e.1 p.0 h)
