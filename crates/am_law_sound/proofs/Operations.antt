-- What a granted operation does to the entries, to its transaction's notes and to looking back.
use Rattle.std.proofs.Common.{◌≡◌, ◌≢◌, ◌≤◌, ◌<◌, ◌+◌, ℕ, List, [], ◌∷◌, ◌++◌, Bool, true, false, cond, ◌&&◌, refl, sym}
use Rattle.std.proofs.Common.{ap, ◌∙◌, subst, ⊎_elim, Option, Some, None, arith}
use Rattle.std.specs.Prelude.{◌==◌, not, is_some, length}
use Rattle.std.proofs.Math.Bool.{and-false}
use Rattle.std.proofs.lemmas.List.{append_assoc}
use Rattle.std.specs.List.{AllByRecursion}
use Rattle.std.specs.Option.{option_map}
use Rattle.std.specs.Ordering.{eq_by_cmp}
use Rattle.std.specs.FinMap.{get, insert, remove, contains_key, get-insert, retain_keys}
use Rattle.std.specs.FinMap.{get-retain_keys, get-entries, is_sorted}
use Rattle.std.specs.FinMap.Entries.{below_all}
use Rattle.std.specs.FinMap.Entries.{is_sorted-where_key}
use Rattle.std.specs.FinMap.Entries as fin
use Rattle.std.proofs.lemmas.Bool.{cases_Bool, cond-true, cond-false, and_parts, and_from, both_ways, or_left, or_right}
use Rattle.std.proofs.lemmas.Bool.{or_cases, eqb-true, eq-eqb, true≢false, false≢true, false_from_ne_true, not-true}
use Rattle.std.proofs.lemmas.Option.{none-some}
use Rattle.std.proofs.lemmas.Float.{T_from_true}
use Rattle.am_record.specs.OrderedKey.{OrderedKey, key_cmp, key_cmp-total, key_cmp-exact, key_eq-exact}
use Rattle.am_record.specs.EntryOrder.{Place, place_of}
use Rattle.am_record.specs.Interval.{Interval, within}
use Rattle.am_record.specs.Plain.{scan_rows, has_new}
use Rattle.am_record.specs.Plain.{Records, PlainMap, is_key_of, rows_where, found, exists_or_done, first_key}
use Rattle.am_record.specs.Plain.{least_taken, map_answer, insert_all, load_where, map_after, is_rising, is_orderly}
use Rattle.am_record.specs.declared.entry.Entry.{Entry}
use Rattle.am_record.specs.declared.step.Op.{Op}
use Rattle.am_record.specs.declared.step.Op.TheVariants.{Get, Scan, ScanBack, Insert, Replace, Set, Delete}
use Rattle.am_record.specs.declared.step.Op.TheVariants.{DeleteRange, Load, Put, Lock as TakeLock, Mark, Back}
use Rattle.am_record.specs.declared.step.Reply.{Reply}
use Rattle.am_record.specs.declared.step.Reply.TheVariants.{Done, Exists, Missing, Deleted}
use Rattle.am_record.proofs.FirstRows.{key_eq-itself}
use Rattle.am_record.proofs.RisingRecords.{run_sorted}
use Rattle.am_record.proofs.Outcomes.{is_true}
use Rattle.am_index.specs.Entries.{Slot, slot_of, first_such, entry_at, find, insert_entry, set_entry, IsRising}
use Rattle.am_index.specs.Edits.{IsChangedAt}
use Rattle.am_index.specs.Content.{content, IsLiveAt, OnePlace, HasContent}
use Rattle.am_index.proofs.Edits.{first_such_all, first_such_passes, entry_at_place, entry_at_beside_inserted}
use Rattle.am_index.proofs.Edits.{other_key, apart_places}
use Rattle.am_index.proofs.EditLaws.{edit_laws}
use Rattle.am_index.proofs.Content.{content_found}
use Rattle.am_index.proofs.ContentLaws.{content_laws}
use Rattle.am_store_undo.specs.declared.note.Note.{Note}
use Rattle.am_store_undo.specs.declared.note.Note.TheVariants.{New, Before, RunMade}
use Rattle.am_store_undo.specs.Undo.{is_noted_run, Undoes}
use Rattle.am_store_undo.proofs.TakeBacks.{undo_laws}
use Rattle.am_index.specs.Runs.{live_entry, with_run}
use Rattle.am_index.proofs.RunLaws.{run_laws}
use Rattle.am_law_serial.specs.Trace.{Effect, Answers, runs_made}
use Rattle.am_law_serial.proofs.Maps.{entries-retain_keys, scan_rows_within, insert_all-parted}
use Rattle.am_law_serial.proofs.Keys.{in_point, in_span}
use Rattle.am_law_effect.specs.Places.{look, put}
use Rattle.am_law_effect.specs.History.{Moment, wrote_by}
use Rattle.am_law_effect.specs.Operations.{writes, is_plain}
use Rattle.am_law_effect.specs.Laws.{Describes, DifferAt, Sweeps}
use Rattle.am_law_effect.specs.Operations.{is_live, find_live, with_value, with_ghost, with_record, with_ghosts}
use Rattle.am_law_effect.specs.Operations.{changed}
use Rattle.am_law_effect.specs.Operations.{note_of_slot, note_of_entry, note_of_record, notes_of_ghosts, noted}
use Rattle.am_law_effect.specs.Operations.{new_records}
use Rattle.am_law_effect.specs.Operations.{Update, updates, updated, notes_of_updates, note_of_run}
use Rattle.am_law_effect.proofs.Lists.{Stands, stands_all, put_set, put_new, content-put}
use Rattle.am_law_effect.proofs.Backs.{describe_laws, run_of_older}
use Rattle.am_law_effect.proofs.Puts.{are_any, has_new_records, new_key, rows_of, IsUpdate, updates_live}
use Rattle.am_law_effect.proofs.Puts.{rows_of_updates}
use Rattle.am_law_effect.proofs.NotesAtPlaces.{none_before}
use Rattle.am_law_effect.proofs.Sweeps.{sweeps_none}
use Rattle.am_law_sound.specs.Represents.{may_write}
use Rattle.am_law_sound.proofs.Series.{remove_none, key_apart, updates_apart, updated_beside, AreChanged, all_gone}
use Rattle.am_law_sound.proofs.Series.{IsAllowed}
use Rattle.am_law_sound.proofs.Series.{all_set}

-- what an operation of t that is granted does, after so many runs
pub record OpRight (t runs : ℕ) (op : Op) (reply : Reply) (es es' : List Entry) (new : List Note) : Type 0 where
  pub has : HasContent es' (map_after op (content es))
  pub only : (p : ℕ) (q : OrderedKey) → may_write op q ≡ false → find es' p q ≡ find es p q
  pub keeps : (p : ℕ) (q : OrderedKey) → p ≢ 0 → p ≤ runs → find es p q ≡ None → find es' p q ≡ None
  pub undo : (notes : List Note) (owned : OrderedKey → Bool) (before : OrderedKey → Option (List ℕ)) →
      ((q : OrderedKey) → may_write op q ≡ true → owned q ≡ true) → Undoes es notes owned before →
      Undoes es' (new ++ notes) owned before
  pub describe : (past : List Moment) (notes : List Note) → Describes t past es notes →
      Describes t ((Answers t op reply, es) ∷ past) es' (new ++ notes)
  pub below : (p : ℕ) (q : OrderedKey) → runs + runs_made (content es) op reply < p → find es' p q ≡ None
  pub runs_noted : (p : ℕ) → is_noted_run new p ≡ true → (p ≢ 0) × (p ≤ runs + runs_made (content es) op reply)

module _ (t runs : ℕ) (es : List Entry) (rise : IsRising es) (one : OnePlace es)
    (empty_above : (p : ℕ) (q : OrderedKey) → runs < p → find es p q ≡ None) where
  abbrev m : PlainMap
  m = content es

  -- nothing is changed
  idle : (op : Op) (reply : Reply) → map_after op m ≡ m → ((q : OrderedKey) → writes op reply q ≡ false) →
      OpRight t runs op reply es es []
  idle op reply same none = record {
    has = record { rising = rise; one_place = one; same = sym same };
    only = λ p q h. refl;
    keeps = λ p q n l e. e;
    undo = λ notes owned before more u. u;
    describe = λ past notes u. (describe_laws t past es notes u).others (Answers t op reply) es
        (λ q. either_no (t == t) (none q)) (λ q h p. refl) (λ q p r e. e);
    below = λ p q h. empty_above p q (omega arith);
    runs_noted = λ p h. absurd (false≢true h);
  }
    where
      either_no : (b : Bool) {c : Bool} → c ≡ false → (b && c) ≡ false
      either_no true e = e
      either_no false e = refl

  -- one entry is put
  module _ (op : Op) (reply : Reply) (k : OrderedKey) (writes_k : writes op reply k ≡ true)
      (may_k : may_write op k ≡ true) (makes_none : runs_made m op reply ≡ 0) where
    wrote_k : wrote_by t k (Answers t op reply) ≡ true
    wrote_k = and_from (t == t) (writes op reply k) (eq-eqb t t refl) writes_k

    apart : (p p' : ℕ) (q : OrderedKey) → may_write op q ≡ false → ◌≢◌ {A = Place} (p, q) (p', k)
    apart p p' q h e = both_ways (may_write op q) h
        (subst (λ x. may_write op x ≡ true) (sym (ap (λ (a : Place). a.1) e)) may_k)

    over : (p : ℕ) (v : List ℕ) (g : Bool) (v' : List ℕ) (g' : Bool) → find es p k ≡ Some (v, g) →
        HasContent (set_entry es p k v' g') (map_after op m) → OpRight t runs op reply es (set_entry es p k v' g')
        (Before p k v g ∷ [])
    over p v g v' g' was has = record {
      has = has;
      only = λ r q h. differ (r, q) (apart r p q h);
      keeps = λ r q n l e. differ (r, q) (stood r q e) ∙ e;
      undo = λ notes owned before more u. (undo_laws es notes owned before rise one u).own.changed p k v g v' g'
          (more k may_k) was;
      describe = λ past notes u. (describe_laws t past es notes u).changed (Answers t op reply) (set_entry es p k v' g')
          p k (v, g) (v', g') wrote_k was change.here differ;
      below = λ r q h. let e = empty_above r q (omega (arith, makes_none)) in differ (r, q) (stood r q e) ∙ e;
      runs_noted = λ r h. absurd (false≢true h);
    }
      where
        change : IsChangedAt es (set_entry es p k v' g') p k (Some (v', g'))
        change = (edit_laws es rise).change.reset p k v' g' (ap is_some was)

        differ : DifferAt (p, k) es (set_entry es p k v' g')
        differ b n = change.elsewhere b.0 b.1 (apart_places b (p, k) n)

        stood : (r : ℕ) (q : OrderedKey) → find es r q ≡ None → ◌≢◌ {A = Place} (r, q) (p, k)
        stood r q e h = none-some (v, g) (sym e ∙ ap (look es) h ∙ was)

    anew : (x : Entry) → x.part ≡ 0 → x.key ≡ k → find es 0 k ≡ None → HasContent (insert_entry es x) (map_after op m) →
        OpRight t runs op reply es (insert_entry es x) (New k ∷ [])
    anew x zero key was has = record {
      has = has;
      only = λ r q h. differ (r, q) (apart r 0 q h);
      keeps = λ r q n l e. differ (r, q) (λ h. n (ap (λ (a : Place). a.0) h)) ∙ e;
      undo = λ notes owned before more u. subst (λ (q : OrderedKey). Undoes (insert_entry es x) (New q ∷ notes) owned
          before) key
          ((undo_laws es notes owned before rise one u).own.made x zero (ap owned key ∙ more k may_k)
          (ap (find es 0) key ∙ was));
      describe = λ past notes u. (describe_laws t past es notes u).made (Answers t op reply) (insert_entry es x) k
          (slot_of x) wrote_k was here differ;
      below = λ r q h. differ (r, q) (λ e. let z : r ≡ 0 = ap (λ (a : Place). a.0) e in absurd (omega arith)) ∙
          empty_above r q (omega (arith, makes_none));
      runs_noted = λ r h. absurd (false≢true h);
    }
      where
        change : IsChangedAt es (insert_entry es x) x.part x.key (Some (slot_of x))
        change = (edit_laws es rise).change.inserted x

        place : ◌≡◌ {A = Place} (place_of x) (0, k)
        place i = (zero i, key i)

        here : find (insert_entry es x) 0 k ≡ Some (slot_of x)
        here = sym (ap (look (insert_entry es x)) place) ∙ change.here

        differ : DifferAt (0, k) es (insert_entry es x)
        differ b n = change.elsewhere b.0 b.1 (apart_places b (place_of x) (λ e. n (e ∙ place)))

  -- ---- inserts

  -- a record is made whose key isn't live
  module _ (op : Op) (k : OrderedKey) (v : List ℕ) (writes_k : writes op Done k ≡ true) (may_k : may_write op k ≡ true)
      (makes_none : runs_made m op Done ≡ 0) (same : map_after op m ≡ insert m k v) where
    inserted : get m k ≡ None →
        OpRight t runs op Done es (put (live_entry 0 (k, v)) es) (note_of_slot 0 k (find es 0 k) ∷ [])
    inserted none = by_slot (find es 0 k) refl
      where
        has : HasContent (put (live_entry 0 (k, v)) es) (map_after op m)
        has = subst (λ (n : PlainMap). HasContent (put (live_entry 0 (k, v)) es) n) (sym same)
            (content-put (live_entry 0 (k, v)) es rise one refl none)

        by_slot : (o : Option Slot) → find es 0 k ≡ o →
            OpRight t runs op Done es (put (live_entry 0 (k, v)) es) (note_of_slot 0 k o ∷ [])
        by_slot None e =
            let is = put_new (live_entry 0 (k, v)) es (ap is_some e) in
            subst (λ l. OpRight t runs op Done es l (New k ∷ [])) (sym is)
            (anew op Done k writes_k may_k makes_none (live_entry 0 (k, v)) refl refl e
            (subst (λ l. HasContent l (map_after op m)) is has))
        by_slot (Some s) e =
            let is = put_set (live_entry 0 (k, v)) es (ap is_some e) in
            subst (λ l. OpRight t runs op Done es l (Before 0 k s.0 s.1 ∷ [])) (sym is)
            (over op Done k writes_k may_k makes_none 0 s.0 s.1 v false e
            (subst (λ l. HasContent l (map_after op m)) is has))

  -- ---- the live entry of a key

  none_such : (test : Entry → Bool) (xs : List Entry) → first_such test xs ≡ None → AllByRecursion (λ e. test e ≡ false)
      xs
  none_such test [] h = tt
  none_such test (x ∷ xs) h = ⊎_elim
      (λ yes. absurd (none-some x (sym h ∙ cond-true (test x) (Some x) (first_such test xs) yes)))
      (λ fails. (fails, none_such test xs (sym (cond-false (test x) (Some x) (first_such test xs) fails) ∙ h)))
      (cases_Bool (test x))

  some_entry : (o : Option Entry) (v : List ℕ) (g : Bool) → option_map slot_of o ≡ Some (v, g) → (x : Entry) ×
      ((o ≡ Some x) × (slot_of x ≡ (v, g)))
  some_entry None v g h = absurd (none-some (v, g) h)
  some_entry (Some x) v g h = (x, (refl, cc))

  live_missed : (k : OrderedKey) (w : List ℕ) → find_live es k ≡ None → get m k ≡ Some w → ⊥
  live_missed k w h has =
      let there = content_found es rise k w has in
      let x = some_entry (entry_at es there.0 k) w false there.1.there in
      let fails : is_live k x.0 ≡ false = first_such_all (λ e. is_live k e ≡ false) _ es x.0
      (none_such (is_live k) es h) x.1.0 in
      let place = entry_at_place es there.0 k x.0 x.1.0 in
      let ghost_not : x.0.is_ghost ≡ false = ap (λ (s : Slot). s.1) x.1.1 in
      let key : x.0.key ≡ k = ap (λ (a : Place). a.1) place in
      both_ways (is_live k x.0) fails (and_from (not x.0.is_ghost) (eq_by_cmp key_cmp x.0.key k) (ap not ghost_not)
      (ap (λ (q : OrderedKey). eq_by_cmp key_cmp q k) key ∙ key_eq-itself k))

  live_found : (k : OrderedKey) (e : Entry) → find_live es k ≡ Some e → Stands es e × (is_live k e ≡ true)
  live_found k e h = (
    first_such_all (Stands es) (is_live k) es e (stands_all es rise) h,
    first_such_passes (is_live k) es e h,
  )

  abbrev slotted : List ℕ → Bool → Option Slot
  slotted v g = Some (v, g)

  -- a change of the live entry
  module _ (op : Op) (k : OrderedKey) (writes_k : (q : OrderedKey) → eq_by_cmp key_cmp q k ≡ true →
      writes op Done q ≡ true) (may_k : may_write op k ≡ true) (makes_none : runs_made m op Done ≡ 0)
      (value : Entry → List ℕ) (is_ghost : Bool) where
    at_entry : ((e : Entry) → IsLiveAt es e.part e.key e.value → e.key ≡ k →
        HasContent (set_entry es e.part e.key (value e) is_ghost) (map_after op m)) →
        (x : Entry) → find_live es k ≡ Some x →
        OpRight t runs op Done es (set_entry es x.part x.key (value x) is_ghost)
        (Before x.part x.key x.value x.is_ghost ∷ [])
    at_entry law x e =
        let f = live_found k x e in
        let parts = and_parts (not x.is_ghost) (eq_by_cmp key_cmp x.key k) f.1 in
        let key : x.key ≡ k = key_eq-exact x.key k parts.1 in
        let live : IsLiveAt es x.part x.key x.value =
        record { there = f.0 ∙ ap (slotted x.value) (not-true x.is_ghost parts.0) } in
        over op Done x.key (writes_k x.key parts.1) (ap (may_write op) key ∙ may_k) makes_none x.part x.value
        x.is_ghost (value x) is_ghost f.0 (law x live key)

    at_live : (edit : Option Entry → List Entry) →
        ((e : Entry) → edit (Some e) ≡ set_entry es e.part e.key (value e) is_ghost) →
        ((e : Entry) → IsLiveAt es e.part e.key e.value → e.key ≡ k →
        HasContent (set_entry es e.part e.key (value e) is_ghost) (map_after op m)) →
        (w : List ℕ) → get m k ≡ Some w → OpRight t runs op Done es (edit (find_live es k))
        (note_of_entry (find_live es k))
    at_live edit is law w has = by_entry (find_live es k) refl
      where
        by_entry : (o : Option Entry) → find_live es k ≡ o → OpRight t runs op Done es (edit o) (note_of_entry o)
        by_entry None e = absurd (live_missed k w e has)
        by_entry (Some x) e = subst (λ l. OpRight t runs op Done es l (Before x.part x.key x.value x.is_ghost ∷ []))
            (sym (is x)) (at_entry law x e)

  -- the content has no record of a key that has no live entry
  none_live : (k : OrderedKey) → find_live es k ≡ None → get m k ≡ None
  none_live k h = by_value (get m k) refl
    where
      by_value : (o : Option (List ℕ)) → get m k ≡ o → get m k ≡ None
      by_value None e = e
      by_value (Some w) e = absurd (live_missed k w h e)

  set_right : (k : OrderedKey) (v : List ℕ) → OpRight t runs (Set k v) Done es (with_record (find_live es k) k v es)
      (note_of_record (find_live es k) k es ∷ [])
  set_right k v = by_entry (find_live es k) refl
    where
      by_entry : (o : Option Entry) → find_live es k ≡ o → OpRight t runs (Set k v) Done es (with_record o k v es)
          (note_of_record o k es ∷ [])
      by_entry None e = inserted (Set k v) k v (key_eq-itself k) (in_point k) refl refl (none_live k e)
      by_entry (Some x) e = at_entry (Set k v) k (λ q h. h) (in_point k) refl (λ y. v) false
          (λ y live key. subst (λ (c : PlainMap). HasContent (set_entry es y.part y.key v false) c)
          (ap (λ (q : OrderedKey). insert m q v) key)
          ((content_laws es rise one).sets.replaced y.part y.key y.value v live))
          x e

-- ---- runs

-- records become a run, where there are some, by an event that wrote them; it makes so many runs
record RunIsMade (t runs made : ℕ) (d : Effect) (may : OrderedKey → Bool) (records : Records) (es : List Entry)
    (new : List Note) : Type 0 where
  has : HasContent (with_run (runs + 1) records es) (insert_all records (content es))
  only : (p : ℕ) (q : OrderedKey) → may q ≡ false → find (with_run (runs + 1) records es) p q ≡ find es p q
  elsewhere : (p : ℕ) (q : OrderedKey) → p ≢ runs + 1 → find (with_run (runs + 1) records es) p q ≡ find es p q
  undo : (notes : List Note) (owned : OrderedKey → Bool) (before : OrderedKey → Option (List ℕ)) →
      ((q : OrderedKey) → may q ≡ true → owned q ≡ true) → Undoes es notes owned before →
      Undoes (with_run (runs + 1) records es) (new ++ notes) owned before
  describe : (past : List Moment) (notes : List Note) → Describes t past es notes →
      Describes t ((d, es) ∷ past) (with_run (runs + 1) records es) (new ++ notes)
  below : (p : ℕ) (q : OrderedKey) → runs + made < p → find (with_run (runs + 1) records es) p q ≡ None
  noted : (p : ℕ) → is_noted_run new p ≡ true → (p ≢ 0) × (p ≤ runs + made)

run_content : (run : ℕ) (records : Records) (es : List Entry) → IsRising es → OnePlace es →
    is_sorted key_cmp records ≡ true → ((q : OrderedKey) → is_key_of records q ≡ true → (find es run q ≡ None) ×
    (get (content es) q ≡ None)) → HasContent (with_run run records es) (insert_all records (content es))
run_content run [] es rising one s none = record { rising = rising; one_place = one; same = refl }
run_content run (x ∷ ps) es rising one s none =
    let parts = and_parts (below_all key_cmp x.0 ps) (is_sorted key_cmp ps) s in
    let now = none x.0 (or_left _ _ (key_eq-itself x.0)) in
    let law = (content_laws es rising one).adds.added (live_entry run x) now.0 refl now.1 in
    let rest = run_content run ps (insert_entry es (live_entry run x)) law.rising law.one_place parts.1 (λ q h.
    let later = none q (or_right _ _ h) in
    let n : q ≢ x.0 = key_apart x.0 ps q parts.0 h in (
      ap (option_map slot_of) (entry_at_beside_inserted es (live_entry run x) run q
          (other_key run run x.0 q (λ e. n (sym e)))) ∙ later.0,
      ap (λ (c : PlainMap). get c q) law.same
          ∙ get-insert key_cmp-total (content es) x.0 x.1 q
          ∙ cond-false _ (Some x.1) (get (content es) q) (false_from_ne_true _ (λ e. n (key_eq-exact q x.0 e)))
          ∙ later.1,
    )) in
    record { rising = rest.rising; one_place = rest.one_place; same = rest.same ∙ ap (insert_all ps) law.same }

-- a map that has no rows under the keys has none of them
no_rows : (test : OrderedKey → Bool) (n : PlainMap) → rows_where test n ≡ [] → (q : OrderedKey) → test q ≡ true →
    get n q ≡ None
no_rows test n none q h =
    sym (cond-true (test q) (get n q) None h)
    ∙ sym (get-retain_keys n test q (λ x e. ap test (sym (key_cmp-exact q x e))))
    ∙ get-entries (retain_keys n test) q ∙ ap (fin.find key_cmp q) (entries-retain_keys test n ∙ none)

no_first : (rows : Records) → first_key rows ≡ None → rows ≡ []
no_first [] h = refl
no_first (row ∷ rows) h = absurd (none-some row.0 (sym h))

-- where nothing stood, nothing stands after places were changed that stood
still_none : {t : ℕ} {d : Effect} {es es' : List Entry} {new : List Note} → Sweeps t d es es' new → (p : ℕ)
    (q : OrderedKey) → find es p q ≡ None → find es' p q ≡ None
still_none {t} {d} {es} {es'} {new} w p q none = none_before new (p, q) (find es' p q) (w.taken_back (p, q) ∙ none)

module _ (gone : List Entry) (t runs : ℕ) (es : List Entry) (rise : IsRising es) (one : OnePlace es)
    (empty_above : (p : ℕ) (q : OrderedKey) → runs < p → find es p q ≡ None) where
  abbrev cm : PlainMap
  cm = content es

  -- records whose keys are dead become a run, by an event that wrote them
  module _ (d : Effect) (may : OrderedKey → Bool) (wrote_may : (q : OrderedKey) → may q ≡ true → wrote_by t q d ≡ true)
    where
      run_made : (records : Records) → is_sorted key_cmp records ≡ true →
          ((q : OrderedKey) → is_key_of records q ≡ true → (may q ≡ true) × (get cm q ≡ None)) →
          RunIsMade t runs 1 d may records es (RunMade (runs + 1) ∷ [])
      run_made records sorted dead = record {
        has = run_content (runs + 1) records es rise one sorted (λ q h. (fresh q, (dead q h).1));
        only = λ p q h. ⊎_elim
            (λ yes. let here = eqb-true p (runs + 1) yes in ap (λ r. find (with_run (runs + 1) records es) r q) here ∙
            other_keys q (absent q h) ∙ ap (λ r. find es r q) (sym here))
            (λ no. other_parts p q no)
            (cases_Bool (p == (runs + 1)));
        elsewhere = λ p q n. other_parts p q (apart p n);
        undo = λ notes owned before more u. (undo_laws es notes owned before rise one u).own.loaded
            (with_run (runs + 1) records es) (runs + 1) (record {
              fresh = fresh;
              elsewhere = other_parts;
              own = λ q not. other_keys q (absent q (false_from_ne_true _
                  (λ yes. both_ways (owned q) not (more q yes))))
                  ∙ fresh q;
            });
        describe = λ past notes u. (describe_laws t past es notes u).loaded d (with_run (runs + 1) records es)
            (runs + 1)
            fresh
            (λ q not. other_keys q (absent q (false_from_ne_true _
            (λ yes. both_ways (wrote_by t q d) not (wrote_may q yes)))) ∙ fresh q)
            (λ p q n. other_parts p q (apart p n));
        below = λ p q h. other_parts p q (apart p (λ e. absurd (omega arith))) ∙ empty_above p q (omega arith);
        noted = λ p h. ⊎_elim (λ yes. let e = eqb-true p (runs + 1) yes in ((λ z. absurd (omega arith)), omega arith))
            (λ no. absurd (false≢true no)) (or_cases (p == (runs + 1)) false h);
      }
        where
          fresh : (q : OrderedKey) → find es (runs + 1) q ≡ None
          fresh q = empty_above (runs + 1) q (omega arith)

          other_parts : (p : ℕ) (q : OrderedKey) → (p == (runs + 1)) ≡ false →
              find (with_run (runs + 1) records es) p q ≡ find es p q
          other_parts p q h = (run_laws es rise).other_parts (runs + 1) records p q h

          other_keys : (q : OrderedKey) → is_key_of records q ≡ false → find (with_run (runs + 1) records es) (runs + 1)
              q ≡
              find es (runs + 1) q
          other_keys q h = (run_laws es rise).other_keys (runs + 1) records q h

          apart : (p : ℕ) → p ≢ (runs + 1) → (p == (runs + 1)) ≡ false
          apart p n = false_from_ne_true (p == (runs + 1)) (λ e. n (eqb-true p (runs + 1) e))

          absent : (q : OrderedKey) → may q ≡ false → is_key_of records q ≡ false
          absent q h = false_from_ne_true _ (λ yes. both_ways (may q) h (dead q yes).0)

      none_made : RunIsMade t runs 0 d may [] es []
      none_made = record {
        has = record { rising = rise; one_place = one; same = refl };
        only = λ p q h. refl;
        elsewhere = λ p q n. refl;
        undo = λ notes owned before more u. u;
        describe = λ past notes u. (describe_laws t past es notes u).swept d es [] (sweeps_none t d es);
        below = λ p q h. empty_above p q (omega (arith, h));
        noted = λ p h. absurd (false≢true h);
      }

  loaded : (records : Records) → is_rising records ≡ true → least_taken records cm ≡ None →
      OpRight t runs (Load records) Done es (with_run (runs + 1) records es) (RunMade (runs + 1) ∷ [])
  loaded records up none =
      let d : Effect = Answers t (Load records) Done in
      let run = run_made d (is_key_of records) (λ q h. wrote t q (is_key_of records q) h) records
      (run_sorted records up)
      (λ q h. (h, no_rows (is_key_of records) cm (no_first (rows_where (is_key_of records) cm) none) q h)) in
      record {
        has = subst (λ (c : PlainMap). HasContent (with_run (runs + 1) records es) c)
            (sym (ap (λ o. load_where o records cm) none)) run.has;
        only = λ p q h. run.only p q (absent q h);
        keeps = λ p q n l e. run.elsewhere p q (λ h. absurd (omega arith)) ∙ e;
        undo = λ notes owned before more u. run.undo notes owned before (λ q h. more q (in_span records q up h)) u;
        describe = run.describe;
        below = run.below;
        runs_noted = run.noted;
      }
    where
      absent : (q : OrderedKey) → may_write (Load records) q ≡ false → is_key_of records q ≡ false
      absent q h = false_from_ne_true _ (λ yes. both_ways (may_write (Load records) q) h (in_span records q up yes))

      wrote : (t : ℕ) (q : OrderedKey) (b : Bool) → b ≡ true → ((t == t) && b) ≡ true
      wrote t q b h = and_from (t == t) b (eq-eqb t t refl) h

  -- the values of records that are live, and a run of the others
  put_right : (records : Records) → is_rising records ≡ true →
      OpRight t runs (Put records) Done es (changed gone runs (Put records) Done es) (noted runs (Put records) Done es)
  put_right records up =
      let d : Effect = Answers t (Put records) Done in
      let may : OrderedKey → Bool = is_key_of records in
      let new : Records = new_records records cm in
      let us : List Update = updates records es in
      let es' : List Entry = with_run (runs + 1) new es in
      let xs : List Note = note_of_run (runs + 1) new in
      let made : ℕ = runs_made cm (Put records) Done in
      let wrote_may : (q : OrderedKey) → may q ≡ true → wrote_by t q d ≡ true =
      λ q h. and_from (t == t) (may q) (eq-eqb t t refl) h in
      let run : RunIsMade t runs made d may new es xs = by_new d may wrote_may (λ q h. h) new refl in
      let sets : AreChanged t d may (insert_all (rows_of us) (content es')) es' (updated us es') (notes_of_updates us) =
      all_set t d may wrote_may us es' run.has.rising run.has.one_place
      (allowed may (λ q h. h) es' run.elsewhere us (updates_live es rise one records))
      (updates_apart es rise one records (run_sorted records up)) in
      record {
        has = record {
          rising = sets.has.rising;
          one_place = sets.has.one_place;
          same = sets.has.same ∙ ap (insert_all (rows_of us)) run.has.same
              ∙ ap (λ rs. insert_all rs (insert_all new cm)) (rows_of_updates es rise one records)
              ∙ insert_all-parted (contains_key cm) records cm;
        };
        only = λ p q h. let not = absent q h in
            sets.sweeps.others q (ap (λ b. (t == t) && b) not ∙ and-false (t == t)) p ∙ run.only p q not;
        keeps = λ p q n l e. still_none sets.sweeps p q (run.elsewhere p q (λ h. absurd (omega arith)) ∙ e);
        undo = λ notes owned before more u.
            subst (λ ns. Undoes (updated us es') ns owned before) (sym (append_assoc (notes_of_updates us) xs notes))
            (sets.undo (xs ++ notes) owned before (λ q h. more q (in_span records q up h))
            (run.undo notes owned before (λ q h. more q (in_span records q up h)) u));
        describe = λ past notes u.
            subst (λ ns. Describes t ((d, es) ∷ past) (updated us es') ns)
            (sym (append_assoc (notes_of_updates us) xs notes))
            ((describe_laws t past es notes u).then_swept d es' (updated us es') (xs ++ notes) (notes_of_updates us)
            (run.describe past notes u) sets.sweeps
            (λ a none. updated_beside es rise one records us a es' (updates_live es rise one records) none));
        below = λ p q h. still_none sets.sweeps p q (run.below p q h);
        runs_noted = λ p h. run.noted p (run_of_older (notes_of_updates us) xs sets.sweeps.no_run p h);
      }
    where
      absent : (q : OrderedKey) → may_write (Put records) q ≡ false → is_key_of records q ≡ false
      absent q h = false_from_ne_true _ (λ yes. both_ways (may_write (Put records) q) h (in_span records q up yes))

      by_new : (d : Effect) (may : OrderedKey → Bool) → ((q : OrderedKey) → may q ≡ true → wrote_by t q d ≡ true) →
          ((q : OrderedKey) → is_key_of records q ≡ true → may q ≡ true) → (rs : Records) →
          new_records records cm ≡ rs →
          RunIsMade t runs (cond (has_new records cm) 1 0) d may (new_records records cm) es
          (note_of_run (runs + 1) (new_records records cm))
      by_new d may wrote_may in_may [] e =
          subst (λ b. RunIsMade t runs (cond b 1 0) d may (new_records records cm) es
          (note_of_run (runs + 1) (new_records records cm)))
          (sym (has_new_records cm records ∙ ap are_any e))
          (subst (λ rs. RunIsMade t runs 0 d may rs es (note_of_run (runs + 1) rs)) (sym e)
          (none_made d may wrote_may))
      by_new d may wrote_may in_may (r ∷ rs) e =
          subst (λ b. RunIsMade t runs (cond b 1 0) d may (new_records records cm) es
          (note_of_run (runs + 1) (new_records records cm)))
          (sym (has_new_records cm records ∙ ap are_any e))
          (subst (λ ns. RunIsMade t runs 1 d may (new_records records cm) es ns)
          (sym (ap (note_of_run (runs + 1)) e))
          (run_made d may wrote_may (new_records records cm)
          (is_true (is_sorted key_cmp (new_records records cm))
          (is_sorted-where_key key_cmp (λ k. not (contains_key cm k)) records
          (T_from_true (is_sorted key_cmp records) (run_sorted records up))))
          (λ q h. let x = new_key cm records q h in (in_may q x.0, x.1))))

      old_part : (u : Update) → IsLiveAt es u.0.part u.0.key u.0.value → u.0.part ≢ runs + 1
      old_part u live h = none-some (u.0.value, false)
          (sym (empty_above u.0.part u.0.key (omega arith)) ∙ live.there)

      -- the live entries are live still when the run is made
      allowed : (may : OrderedKey → Bool) → ((q : OrderedKey) → is_key_of records q ≡ true → may q ≡ true) →
          (es' : List Entry) → ((p : ℕ) (q : OrderedKey) → p ≢ runs + 1 → find es' p q ≡ find es p q) →
          (us : List Update) → AllByRecursion (IsUpdate es rise one records) us → AllByRecursion (IsAllowed may es') us
      allowed may in_may es' same [] all = tt
      allowed may in_may es' same (u ∷ us) all = (
        record {
          may_write = in_may u.0.key all.0.of_key;
          mark = all.0.mark;
          live = record { there = same u.0.part u.0.key (old_part u all.0.live) ∙ all.0.live.there };
        },
        allowed may in_may es' same us all.1,
      )

  some_of : (k : OrderedKey) → contains_key cm k ≡ true → (w : List ℕ) × (get cm k ≡ Some w)
  some_of k h = by_value (get cm k) refl
    where
      by_value : (o : Option (List ℕ)) → get cm k ≡ o → (w : List ℕ) × (get cm k ≡ Some w)
      by_value None e = absurd (false≢true (sym (ap is_some e) ∙ h))
      by_value (Some w) e = (w, e)

  none_of : (k : OrderedKey) → contains_key cm k ≡ false → get cm k ≡ None
  none_of k h = by_value (get cm k) refl
    where
      by_value : (o : Option (List ℕ)) → get cm k ≡ o → get cm k ≡ None
      by_value None e = e
      by_value (Some w) e = absurd (true≢false (sym (ap is_some e) ∙ h))

  -- the operation with this answer is right
  abbrev Right : Op → Reply → Type 0
  Right op reply = OpRight t runs op reply es (changed gone runs op reply es) (noted runs op reply es)

  insert_right : (k : OrderedKey) (v : List ℕ) (b : Bool) → contains_key cm k ≡ b →
      Right (Insert k v) (cond b (Exists k) Done)
  insert_right k v true h = idle t runs es rise one empty_above (Insert k v) (Exists k)
      (cond-true (contains_key cm k) cm (insert cm k v) h) (λ q. refl)
  insert_right k v false h = inserted t runs es rise one empty_above (Insert k v) k v (key_eq-itself k) (in_point k)
      refl
      (cond-false (contains_key cm k) cm (insert cm k v) h) (none_of k h)

  replace_right : (k : OrderedKey) (v : List ℕ) (b : Bool) → contains_key cm k ≡ b →
      Right (Replace k v) (cond b Done Missing)
  replace_right k v true h =
      let some = some_of k h in
      at_live t runs es rise one empty_above (Replace k v) k (λ q e. e) (in_point k) refl (λ e. v) false
      (λ o. with_value o v es) (λ e. refl)
      (λ e live key. subst (λ (c : PlainMap). HasContent (set_entry es e.part e.key v false) c)
      (ap (λ (q : OrderedKey). insert cm q v) key ∙ sym (cond-true (contains_key cm k) (insert cm k v) cm h))
      ((content_laws es rise one).sets.replaced e.part e.key e.value v live))
      some.0 some.1
  replace_right k v false h = idle t runs es rise one empty_above (Replace k v) Missing
      (cond-false (contains_key cm k) (insert cm k v) cm h) (λ q. refl)

  delete_right : (k : OrderedKey) (b : Bool) → contains_key cm k ≡ b → Right (Delete k) (cond b Done Missing)
  delete_right k true h =
      let some = some_of k h in
      at_live t runs es rise one empty_above (Delete k) k (λ q e. e) (in_point k) refl (λ e. e.value) true
      (λ o. with_ghost o es) (λ e. refl)
      (λ e live key. subst (λ (c : PlainMap). HasContent (set_entry es e.part e.key e.value true) c)
      (ap (λ (q : OrderedKey). remove cm q) key) ((content_laws es rise one).sets.made_ghost e.part e.key e.value
      e.value live))
      some.0 some.1
  delete_right k false h = idle t runs es rise one empty_above (Delete k) Missing
      (remove_none cm k (none_of k h)) (λ q. refl)

  delete_range_right : (range : Interval) (max n : ℕ) → Right (DeleteRange range max) (Deleted n)
  delete_range_right range max n =
      let rows : Records = scan_rows range max cm in
      let d : Effect = Answers t (DeleteRange range max) (Deleted n) in
      let gone = all_gone t d (within range) (λ q h. and_from (t == t) (within range q) (eq-eqb t t refl) h) rows es
      rise one (scan_rows_within range max cm) in
      record {
        has = gone.has;
        only = λ p q h. gone.sweeps.others q (ap (λ b. (t == t) && b) h ∙ and-false (t == t)) p;
        keeps = λ p q above old none. still_none gone.sweeps p q none;
        undo = gone.undo;
        describe = λ past notes u. (describe_laws t past es notes u).swept d (with_ghosts rows es)
            (notes_of_ghosts rows es) gone.sweeps;
        below = λ p q h. still_none gone.sweeps p q (empty_above p q (omega (arith, h)));
        runs_noted = λ p h. absurd (both_ways (is_noted_run (notes_of_ghosts rows es) p) (gone.sweeps.no_run p) h);
      }

  load_right : (records : Records) → is_rising records ≡ true → (o : Option OrderedKey) → least_taken records cm ≡ o →
      Right (Load records) (exists_or_done o)
  load_right records up None h = loaded records up h
  load_right records up (Some k) h = idle t runs es rise one empty_above (Load records) (Exists k)
      (ap (λ x. load_where x records cm) h) (λ q. refl)

  found_idle : (k : OrderedKey) (o : Option (List ℕ)) → Right (Get k) (found o)
  found_idle k None = idle t runs es rise one empty_above (Get k) (found None) refl (λ q. refl)
  found_idle k (Some v) = idle t runs es rise one empty_above (Get k) (found (Some v)) refl (λ q. refl)

  pub op_right : (op : Op) → is_orderly op ≡ true → is_plain op ≡ true → Right op (map_answer op cm)
  op_right Mark o plain = absurd (false≢true plain)
  op_right Back o plain = absurd (false≢true plain)
  op_right (Get k) o plain = found_idle k (get cm k)
  op_right (Scan range max) o plain = idle t runs es rise one empty_above (Scan range max)
      (map_answer (Scan range max) cm) refl (λ q. refl)
  op_right (ScanBack range max) o plain = idle t runs es rise one empty_above (ScanBack range max)
      (map_answer (ScanBack range max) cm) refl (λ q. refl)
  op_right (Insert k v) o plain = insert_right k v (contains_key cm k) refl
  op_right (Replace k v) o plain = replace_right k v (contains_key cm k) refl
  op_right (Set k v) o plain = set_right t runs es rise one empty_above k v
  op_right (Delete k) o plain = delete_right k (contains_key cm k) refl
  op_right (DeleteRange range max) o plain = delete_range_right range max (length (scan_rows range max cm))
  op_right (Load records) o plain = load_right records o (least_taken records cm) refl
  op_right (Put records) o plain = put_right records o
  op_right (TakeLock lock) o plain = idle t runs es rise one empty_above (TakeLock lock) Done refl (λ q. refl)
