-- Room for values, from one step to the next.
use Rattle.std.proofs.Common.{◌≡◌, ℕ, ◌+◌, List, [], ◌∷◌, ◌++◌, length, map, true, false, cond, ◌==◌}
use Rattle.std.proofs.Common.{Option, Some, None, refl, sym, ap, ◌∙◌, subst, ⊎_elim}
use Rattle.std.specs.List.{cons_option}
use Rattle.std.specs.Option.{option_map}
use Rattle.std.specs.Prelude.{is_some}
use Rattle.std.proofs.lemmas.Bool.{cases_Bool, cond_both, eqb-true, eqb-false}
use Rattle.std.proofs.lemmas.Option.{same_Some}
use Rattle.am_record.specs.OrderedKey.{OrderedKey}
use Rattle.am_record.specs.EntryOrder.{Place}
use Rattle.am_record.specs.Plain.{Records, scan_rows}
use Rattle.am_record.specs.declared.entry.Entry.{Entry}
use Rattle.am_record.specs.declared.step.Op.{Op}
use Rattle.am_record.specs.declared.step.Op.TheVariants.{Insert, Replace, Set, Delete, DeleteRange, Load, Put, Back}
use Rattle.am_record.specs.declared.step.Step.{Step}
use Rattle.am_record.specs.declared.step.Step.TheVariants.{Begin, Do, Commit, Abort, Merge, Clean}
use Rattle.am_record.specs.declared.step.Reply.{Reply}
use Rattle.am_record.specs.declared.step.Reply.TheVariants.{Begun, Committed, Aborted, Done, Deleted, Refused}
use Rattle.am_record.proofs.Lists.{AllByRecursion-append}
use Rattle.am_index.specs.Entries.{Slot, slot_of, find, set_entry, IsRising}
use Rattle.am_index.specs.Rooms.{HasRoom, HaveRoom, KeepRoom}
use Rattle.am_index.specs.Edits.{same_place}
use Rattle.am_index.specs.Content.{content}
use Rattle.am_index.proofs.Edits.{one_place, rising_reset}
use Rattle.am_index.proofs.EditLaws.{edit_laws}
use Rattle.am_index.proofs.WalkLaws.{first_stands}
use Rattle.am_store_undo.specs.declared.note.Note.{Note}
use Rattle.am_store_undo.specs.Notes.{NoteFits, NotesFit}
use Rattle.am_store_undo.proofs.Fits.{fits_on, fits_until}
use Rattle.am_law_effect.specs.Operations.{find_live, with_ghost, noted, notes_left, note_of_slot, note_of_entry}
use Rattle.am_law_effect.specs.Operations.{is_live}
use Rattle.am_law_effect.specs.Operations.{note_of_record, notes_of_ghosts, new_records, updates, notes_of_updates}
use Rattle.am_law_effect.specs.Operations.{note_of_run}
use Rattle.am_record.proofs.ByNumber.{of_number-none, of_number-without_other, has_number-without_number}
use Rattle.am_record.proofs.ByNumber.{changed_number}
use Rattle.am_law_sound.specs.StoreState.{Active, StoreState, IsFit, state_after, state_after_op, in_table, is_in}
use Rattle.am_law_sound.specs.StoreState.{newcomer}
use Rattle.am_law_sound.specs.StoreState.{with_op, without_tx}

-- ---- what is noted

module _ (roomy : List Place) where
  -- each value of the list has room
  abbrev AreRoomy : List Entry → Type 0
  AreRoomy es = (part : ℕ) (key : OrderedKey) (slot : Slot) → find es part key ≡ Some slot →
      HasRoom roomy part key (length slot.0)

  module _ (es : List Entry) (rising : IsRising es) (values : AreRoomy es) where
    slot_fits : (key : OrderedKey) (o : Option Slot) → find es 0 key ≡ o → NoteFits roomy (note_of_slot 0 key o)
    slot_fits key None there = tt
    slot_fits key (Some s) there = values 0 key s there

    live_stands : (key : OrderedKey) (e : Entry) → find_live es key ≡ Some e → find es e.part e.key ≡ Some (slot_of e)
    live_stands key e found = ap (option_map slot_of) (first_stands (is_live key) es e rising found)

    entry_fits : (key : OrderedKey) (o : Option Entry) → find_live es key ≡ o → NotesFit roomy (note_of_entry o)
    entry_fits key None found = tt
    entry_fits key (Some e) found = (values e.part e.key (slot_of e) (live_stands key e found), tt)

    record_fits : (key : OrderedKey) (o : Option Entry) → find_live es key ≡ o →
        NoteFits roomy (note_of_record o key es)
    record_fits key None found = slot_fits key (find es 0 key) refl
    record_fits key (Some e) found = values e.part e.key (slot_of e) (live_stands key e found)

    -- a ghost keeps its value
    ghost_rises : (o : Option Entry) → IsRising (with_ghost o es)
    ghost_rises None = rising
    ghost_rises (Some e) = rising_reset e.part e.key e.value true es rising

    ghost_roomy : (key : OrderedKey) (o : Option Entry) → find_live es key ≡ o → AreRoomy (with_ghost o es)
    ghost_roomy key None found part k slot there = values part k slot there
    ghost_roomy key (Some e) found part k slot there =
        let stands = live_stands key e found in
        let change = (edit_laws es rising).change.reset e.part e.key e.value true (ap is_some stands) in
        ⊎_elim
        (λ (yes : same_place part k e.part e.key ≡ true).
        let here : ◌≡◌ {A = Place} (part, k) (e.part, e.key) = one_place (part, k) (e.part, e.key) yes in
        let es' = set_entry es e.part e.key e.value true in
        let same : Some (e.value, true) ≡ Some slot =
        sym change.here ∙ sym (ap (λ (a : Place). find es' a.0 a.1) here) ∙ there in
        subst (λ (s : Slot). HasRoom roomy part k (length s.0)) (same_Some _ _ same)
        (subst (λ (a : Place). HasRoom roomy a.0 a.1 (length e.value)) (sym here)
        (values e.part e.key (slot_of e) stands)))
        (λ (no : same_place part k e.part e.key ≡ false).
        values part k slot (sym (change.elsewhere part k no) ∙ there))
        (cases_Bool (same_place part k e.part e.key))

  ghosts_fit : (rs : Records) (es : List Entry) → IsRising es → AreRoomy es → NotesFit roomy (notes_of_ghosts rs es)
  ghosts_fit [] es rising values = tt
  ghosts_fit (r ∷ rs) es rising values =
      let o = find_live es r.0 in
      let es' = with_ghost o es in
      AllByRecursion-append (NoteFits roomy) (notes_of_ghosts rs es') (note_of_entry o)
      (ghosts_fit rs es' (ghost_rises es rising values o) (ghost_roomy es rising values r.0 o refl))
      (entry_fits es rising values r.0 o refl)

  updates_fit : (rs : Records) (es : List Entry) → IsRising es → AreRoomy es →
      NotesFit roomy (notes_of_updates (updates rs es))
  updates_fit [] es rising values = tt
  updates_fit (r ∷ rs) es rising values = by_entry (find_live es r.0) refl (updates_fit rs es rising values)
    where
      by_entry : (o : Option Entry) → find_live es r.0 ≡ o → NotesFit roomy (notes_of_updates (updates rs es)) →
          NotesFit roomy (notes_of_updates (cons_option (option_map (λ (e : Entry). (e, r.1)) o) (updates rs es)))
      by_entry None found rest = rest
      by_entry (Some e) found rest = AllByRecursion-append (NoteFits roomy) (notes_of_updates (updates rs es))
          (note_of_entry (Some e)) rest (entry_fits es rising values r.0 (Some e) found)

  run_fits : (run : ℕ) (rs : Records) → NotesFit roomy (note_of_run run rs)
  run_fits run [] = tt
  run_fits run (r ∷ rs) = (tt, tt)

-- what an operation notes stood there, so it has room
noted_fits : (es : List Entry) (roomy : List Place) → IsRising es → HaveRoom es roomy → (runs : ℕ) (op : Op)
    (reply : Reply) → NotesFit roomy (noted runs op reply es)
noted_fits es roomy rising have runs (Insert k v) Done =
    (slot_fits roomy es rising have.values k (find es 0 k) refl, tt)
noted_fits es roomy rising have runs (Replace k v) Done =
    entry_fits roomy es rising have.values k (find_live es k) refl
noted_fits es roomy rising have runs (Set k v) Done =
    (record_fits roomy es rising have.values k (find_live es k) refl, tt)
noted_fits es roomy rising have runs (Delete k) Done = entry_fits roomy es rising have.values k (find_live es k) refl
noted_fits es roomy rising have runs (DeleteRange range max) (Deleted n) =
    ghosts_fit roomy (scan_rows range max (content es)) es rising have.values
noted_fits es roomy rising have runs (Load records) Done = (tt, tt)
noted_fits es roomy rising have runs (Put records) Done =
    let new = new_records records (content es) in
    AllByRecursion-append (NoteFits roomy) (notes_of_updates (updates records es)) (note_of_run (runs + 1) new)
    (updates_fit roomy records es rising have.values) (run_fits roomy (runs + 1) new)
noted_fits es roomy rising have runs op reply = tt

left_fits : (roomy : List Place) (op : Op) (reply : Reply) (marks : List ℕ) (notes : List Note) →
    NotesFit roomy notes → NotesFit roomy (notes_left op reply marks notes)
left_fits roomy Back Done marks notes fits = fits_until roomy marks notes fits
left_fits roomy op reply marks notes fits = fits

-- ---- the table of transactions

not_there : (xs : List Active) (t : ℕ) → is_in xs t ≡ false → in_table xs t ≡ newcomer 0
not_there xs t = of_number-none (λ (x : Active). x.number) (λ x. x) (newcomer 0) t xs

-- what holds of no notes and of those of the transaction of that number holds of them after a begin, an end, and a
-- change that keeps it
module _ (P : List Note → Type 0) (none : P []) (t : ℕ) where
  begun : (xs : List Active) (n : ℕ) → P (in_table xs t).notes → P (in_table (xs ++ newcomer n ∷ []) t).notes
  begun [] n h = elim (n == t) as (λ b. P (cond b (newcomer n) (newcomer 0)).notes) [ true ↦ none | false ↦ none ]
  begun (x ∷ xs) n h = (elim (x.number == t) as (λ b. P (cond b x (in_table xs t)).notes →
      P (cond b x (in_table (xs ++ newcomer n ∷ []) t)).notes) [ true ↦ λ k. k | false ↦ λ k. begun xs n k ]) h

  changed_by : (f : Active → Active) → ((x : Active) → (f x).number ≡ x.number) →
      ((x : Active) → P x.notes → P (f x).notes) → (xs : List Active) → P (in_table xs t).notes →
      P (in_table (map f xs) t).notes
  changed_by f same on [] h = h
  changed_by f same on (x ∷ xs) h = subst (λ n. P (cond (n == t) (f x) (in_table (map f xs) t)).notes) (sym (same x))
      ((elim (x.number == t) as (λ b. P (cond b x (in_table xs t)).notes →
      P (cond b (f x) (in_table (map f xs) t)).notes) [ true ↦ on x | false ↦ changed_by f same on xs ]) h)

  ended : (u : ℕ) (xs : List Active) → P (in_table xs t).notes → P (in_table (without_tx u xs) t).notes
  ended u xs h = ⊎_elim
      (λ same.
      let off = subst (λ n. is_in (without_tx u xs) n ≡ false) (eqb-true u t same)
      (has_number-without_number (λ (x : Active). x.number) u xs) in
      subst (λ (y : Active). P y.notes) (sym (not_there (without_tx u xs) t off)) none)
      (λ other. subst (λ (y : Active). P y.notes) (sym (of_number-without_other (λ (x : Active). x.number) (λ x. x)
      (newcomer 0) u xs t (λ e. eqb-false u t other (sym e)))) h)
      (cases_Bool (u == t))

-- ---- one step

module _ (p : StoreState) (before : List Place) (rising : IsRising p.entries) (have : HaveRoom p.entries before)
    (fits : (t : ℕ) → NotesFit before (in_table p.active t).notes) where
  does : (u : ℕ) (op : Op) (reply : Reply) (t : ℕ) → NotesFit before
      (in_table (state_after_op p u op reply).active t).notes
  does u op (Refused why) t = fits t
  does u op reply t =
      let new = noted p.runs op reply p.entries in
      changed_by (NotesFit before) tt t (λ (x : Active). cond (x.number == u) (with_op op reply new x) x)
      (changed_number (λ (x : Active). x.number) (with_op op reply new) u (λ x. refl))
      (λ x h. cond_both (x.number == u) (with_op op reply new x) x (λ (y : Active). NotesFit before y.notes)
      (λ _. AllByRecursion-append (NoteFits before) new (notes_left op reply x.marks x.notes)
      (noted_fits p.entries before rising have p.runs op reply) (left_fits before op reply x.marks x.notes h)) (λ _. h))
      p.active (fits t)

  -- the values that are noted after the step had room before it
  had_room : (step : Step) (reply : Reply) (t : ℕ) → NotesFit before
      (in_table (state_after p step reply).active t).notes
  had_room Begin (Begun n) t = begun (NotesFit before) tt t p.active n (fits t)
  had_room (Do u op) reply t = does u op reply t
  had_room (Commit u) (Committed c) t = ended (NotesFit before) tt t u p.active (fits t)
  had_room (Abort u) Aborted t = ended (NotesFit before) tt t u p.active (fits t)
  had_room (Merge limit) reply t = fits t
  had_room (Clean range limit) reply t = fits t
  had_room step reply t = fits t

  -- and have it still, since what is noted can be taken back
  pub have_room : (p' : StoreState) (step : Step) (reply : Reply) → p' ≡ state_after p step reply → IsFit p' →
      (after : List Place) → KeepRoom before after p'.entries → (t : ℕ) → NotesFit after (in_table p'.active t).notes
  have_room p' step reply is fit after keep t = ⊎_elim
      (λ there. fits_on before after p'.entries keep (in_table p'.active t).notes (fit.can_abort t there)
      (subst (λ (q : StoreState). NotesFit before (in_table q.active t).notes) (sym is) (had_room step reply t)))
      (λ none. subst (λ (x : Active). NotesFit after x.notes) (sym (not_there p'.active t none)) tt)
      (cases_Bool (is_in p'.active t))
