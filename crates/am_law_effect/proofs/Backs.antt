-- Notes taken back, and looking back.
use Rattle.std.proofs.Common.{◌≡◌, ◌≢◌, ℕ, List, [], ◌∷◌, ◌++◌, Bool, true, false, cond, ◌||◌, refl, sym, ap, ◌∙◌}
use Rattle.std.proofs.Common.{subst, ⊎_elim, ◌⊎◌, inl, inr, Option, Some, None}
use Rattle.std.specs.Prelude.{◌==◌}
use Rattle.std.specs.List.{AllByRecursion}
use Rattle.std.specs.Ordering.{eq_by_cmp}
use Rattle.std.proofs.lemmas.Bool.{cases_Bool, cond-true, cond-false, both_ways, or_parts, or_left, or_right, or_cases}
use Rattle.std.proofs.lemmas.Bool.{eqb-true, eqb-false}
use Rattle.std.proofs.lemmas.List.Folds.{list_any-append}
use Rattle.am_law_effect.proofs.Lists.{Stands, look-reslotted, look-reslotted_none, rising-reslotted, stands_all}
use Rattle.am_law_effect.proofs.Lists.{tied_place}
use Rattle.am_law_effect.proofs.NotesAtPlaces.{some_none, back, back-append, back_some, ghosted_stays, none_before}
use Rattle.am_law_effect.proofs.NotesAtPlaces.{one_some}
use Rattle.am_law_effect.proofs.NotesAtPlaces.{owned_more, run_before, run_later, some_or_none, unowned_leaves}
use Rattle.am_law_effect.proofs.Sweeps.{sweeps_one}
use Rattle.am_law_effect.specs.History.{Moment, left_at, or_made, wrote, wrote_by}
use Rattle.am_law_effect.specs.Laws.{DescribeLaws, Describes, DifferAt, IsOfKey, Sweeps, taken_back}
use Rattle.am_law_effect.specs.Places.{look, reslotted, with_slot}
use Rattle.am_index.proofs.Edits.{one_place}
use Rattle.am_index.specs.Entries.{IsRising, Slot, slot_of}
use Rattle.am_record.specs.EntryOrder.{Place, place_cmp, place_of}
use Rattle.am_record.specs.OrderedKey.{OrderedKey}
use Rattle.am_record.specs.Plain.{fresh}
use Rattle.am_record.specs.declared.entry.Entry.{Entry}
use Rattle.am_record.proofs.Lists.{AllByRecursion-append, AllByRecursion-front, AllByRecursion-back}
use Rattle.am_law_serial.specs.Trace.{Effect}
use Rattle.am_store_undo.specs.Notes.{ghosted}
use Rattle.am_store_undo.specs.Undo.{is_noted_run}
use Rattle.am_store_undo.specs.declared.note.Note.{Note}
use Rattle.am_store_undo.specs.Notes as notes_of
use Rattle.am_store_undo.specs.declared.note.Note.TheVariants.{Before, New, RunMade}

pub unwritten : (t : ℕ) (a : Place) (past : List Moment) (es : List Entry) → wrote t a.1 past ≡ false →
    left_at t a past es ≡ look es a
unwritten t a [] es h = refl
unwritten t a (m ∷ past) es h = cond-false (wrote t a.1 (m ∷ past)) (or_made (left_at t a past m.1) (look es a))
    (look es a) h

-- a run that is noted, where newer notes are of none
pub run_of_older : (new notes : List Note) → ((p : ℕ) → is_noted_run new p ≡ false) → (p : ℕ) →
    is_noted_run (new ++ notes) p ≡ true → is_noted_run notes p ≡ true
run_of_older new notes none p made = ⊎_elim
    (λ h. absurd (both_ways (is_noted_run new p) (none p) h))
    (λ h. h)
    (or_cases (is_noted_run new p) (is_noted_run notes p) (sym (list_any-append _ new notes) ∙ made))

module _ (t : ℕ) (past : List Moment) (es : List Entry) (notes : List Note) (u : Describes t past es notes) where
  -- keys that it didn't write are not touched
  leaves : (q : OrderedKey) → wrote t q past ≡ false → (p : ℕ) (s : Option Slot) → (is_noted_run notes p ≡ false) ⊎
      (s ≡ None) → back notes (p, q) s ≡ s
  leaves q h p s side = unowned_leaves (λ k. wrote t k past) notes u.owns q h p s side

  owns_more : (d : Effect) (now : List Entry) → AllByRecursion (IsOfKey (λ q. wrote t q ((d, now) ∷ past))) notes
  owns_more d now = owned_more notes (λ q. wrote t q past) (λ q. wrote t q ((d, now) ∷ past))
      (λ q h. or_right (wrote_by t q d) (wrote t q past) h) u.owns

  -- what would be left where nothing stands
  nothing : (a : Place) → look es a ≡ None → left_at t a past es ≡ None
  nothing a e = sym (u.same a) ∙ ap (back notes a) e ∙ u.stands a e

  something : (a : Place) (s : Slot) → look es a ≡ Some s → (s' : Slot) × (left_at t a past es ≡ Some s')
  something a s e = let y = back_some notes a s in (y.0, sym (u.same a) ∙ ap (back notes a) e ∙ y.1)

  written_at : (d : Effect) (es' : List Entry) (a : Place) → wrote t a.1 ((d, es) ∷ past) ≡ true →
      left_at t a ((d, es) ∷ past) es' ≡ or_made (left_at t a past es) (look es' a)
  written_at d es' a h = cond-true (wrote t a.1 ((d, es) ∷ past)) (or_made (left_at t a past es) (look es' a))
      (look es' a) h

  -- a place where nothing is made, and that is as it was where its key isn't written
  stayed : (d : Effect) (es' : List Entry) (a : Place) → (look es a ≡ None → look es' a ≡ None) →
      (wrote_by t a.1 d ≡ false → look es' a ≡ look es a) →
      left_at t a ((d, es) ∷ past) es' ≡ left_at t a past es
  stayed d es' a unmade same = ⊎_elim
      (λ yes. written_at d es' a yes ∙ by_slot (some_or_none (look es a)))
      (λ not.
      let parts = or_parts (wrote_by t a.1 d) (wrote t a.1 past) not in
      unwritten t a ((d, es) ∷ past) es' not ∙ same parts.0 ∙ sym (unwritten t a past es parts.1))
      (cases_Bool (wrote t a.1 ((d, es) ∷ past)))
    where
      by_slot : ((look es a ≡ None) ⊎ ((s : Slot) × (look es a ≡ Some s))) →
          or_made (left_at t a past es) (look es' a) ≡ left_at t a past es
      by_slot w = ⊎_elim
          (λ none. let x = nothing a none in ap (λ o. or_made o (look es' a)) x ∙ ap ghosted (unmade none) ∙ sym x)
          (λ some. let x = something a some.0 some.1 in ap (λ o. or_made o (look es' a)) x.1 ∙ sym x.1)
          w

  -- a place that is as it was
  kept : (d : Effect) (es' : List Entry) (a : Place) → look es' a ≡ look es a → left_at t a ((d, es) ∷ past) es' ≡
      left_at t a past es
  kept d es' a e = stayed d es' a (λ none. e ∙ none) (λ not. e)

  -- a place of a key that is written now
  made_law : (d : Effect) (es' : List Entry) (k : OrderedKey) (s : Slot) → wrote_by t k d ≡ true →
      look es (0, k) ≡ None → look es' (0, k) ≡ Some s → DifferAt (0, k) es es' →
      Describes t ((d, es) ∷ past) es' (New k ∷ notes)
  made_law d es' k s w absent there differ = record {
    same = λ a. ⊎_elim
        (λ tie.
        let here : a ≡ (0, k) = one_place a (0, k) tie in
        let was : look es a ≡ None = ap (look es) here ∙ absent in
        let x = nothing a was in
        ap (back notes a) (cond-true _ (ghosted (look es' a)) (look es' a) tie)
        ∙ ghosted_stays notes a (look es' a) (u.stands a was)
        ∙ sym (ap (λ o. or_made o (look es' a)) x)
        ∙ sym (written_at d es' a (or_left _ _ (ap (λ (b : Place). wrote_by t b.1 d) here ∙ w))))
        (λ apart.
        let e : look es' a ≡ look es a = differ a (λ h. both_ways _ apart
        (ap (λ (b : Place). eq_by_cmp place_cmp b (0, k)) h ∙ tied_place (0, k))) in
        ap (back notes a) (cond-false _ (ghosted (look es' a)) (look es' a) apart ∙ e) ∙ u.same a ∙
        sym (kept d es' a e))
        (cases_Bool (eq_by_cmp place_cmp a (0, k)));
    stands = λ a none. ⊎_elim
        (λ tie. absurd (some_none s (sym there ∙ ap (look es') (sym (one_place a (0, k) tie)) ∙ none)))
        (λ apart.
        let e : look es' a ≡ look es a = differ a (λ h. both_ways _ apart
        (ap (λ (b : Place). eq_by_cmp place_cmp b (0, k)) h ∙ tied_place (0, k))) in
        ap (back notes a) (cond-false _ None None apart) ∙ u.stands a (sym e ∙ none))
        (cases_Bool (eq_by_cmp place_cmp a (0, k)));
    owns = (or_left (wrote_by t k d) (wrote t k past) w, owns_more d es);
    own_runs = λ q h r made.
        let parts = or_parts (wrote_by t q d) (wrote t q past) h in
        differ (r, q) (apart_from q r parts.0) ∙ u.own_runs q parts.1 r made;
  }
    where
      apart_from : (q : OrderedKey) (r : ℕ) → wrote_by t q d ≡ false → ◌≢◌ {A = Place} (r, q) (0, k)
      apart_from q r n h = both_ways (wrote_by t q d) n (ap (λ (b : Place). wrote_by t b.1 d) h ∙ w)

  loaded_law : (d : Effect) (es' : List Entry) (run : ℕ) → ((q : OrderedKey) → look es (run, q) ≡ None) →
      ((q : OrderedKey) → wrote_by t q d ≡ false → look es' (run, q) ≡ None) →
      ((p : ℕ) (q : OrderedKey) → p ≢ run → look es' (p, q) ≡ look es (p, q)) →
      Describes t ((d, es) ∷ past) es' (RunMade run ∷ notes)
  loaded_law d es' run fresh only differ = record {
    same = λ a. ⊎_elim
        (λ tie.
        let was : look es a ≡ None = in_run a tie in
        let x = nothing a was in
        ap (back notes a) (cond-true _ (ghosted (look es' a)) (look es' a) tie)
        ∙ ghosted_stays notes a (look es' a) (u.stands a was)
        ∙ ⊎_elim
        (λ yes. sym (ap (λ o. or_made o (look es' a)) x) ∙ sym (written_at d es' a yes))
        (λ not.
        let empty : look es' a ≡ None = ap (λ r. look es' (r, a.1)) (eqb-true a.0 run tie) ∙
        only a.1 (or_parts (wrote_by t a.1 d) (wrote t a.1 past) not).0 in
        ap ghosted empty ∙ sym empty ∙ sym (unwritten t a ((d, es) ∷ past) es' not))
        (cases_Bool (wrote t a.1 ((d, es) ∷ past))))
        (λ apart.
        let e : look es' a ≡ look es a = differ a.0 a.1 (eqb-false a.0 run apart) in
        ap (back notes a) (cond-false _ (ghosted (look es' a)) (look es' a) apart ∙ e) ∙ u.same a ∙
        sym (kept d es' a e))
        (cases_Bool (a.0 == run));
    stands = λ a none. ⊎_elim
        (λ tie. ap (back notes a) (cond-true _ None None tie) ∙ u.stands a (in_run a tie))
        (λ apart. ap (back notes a) (cond-false _ None None apart) ∙
        u.stands a (sym (differ a.0 a.1 (eqb-false a.0 run apart)) ∙ none))
        (cases_Bool (a.0 == run));
    owns = (tt, owns_more d es);
    own_runs = λ q h r made.
        let parts = or_parts (wrote_by t q d) (wrote t q past) h in
        ⊎_elim
        (λ yes. ap (λ z. look es' (z, q)) (eqb-true r run yes) ∙ only q parts.0)
        (λ not. differ r q (eqb-false r run not) ∙ u.own_runs q parts.1 r
        (⊎_elim (λ e. absurd (both_ways (r == run) not e)) (λ later. later)
        (or_cases (r == run) (is_noted_run notes r) made)))
        (cases_Bool (r == run));
  }
    where
      in_run : (a : Place) → (a.0 == run) ≡ true → look es a ≡ None
      in_run a tie = ap (λ r. look es (r, a.1)) (eqb-true a.0 run tie) ∙ fresh a.1

      either_none : (b : Bool) (o : Option Slot) → o ≡ None → cond b (ghosted o) o ≡ None
      either_none true o h = ap ghosted h
      either_none false o h = h

  swept_law : (d : Effect) (es' : List Entry) (new : List Note) → Sweeps t d es es' new →
      Describes t ((d, es) ∷ past) es' (new ++ notes)
  swept_law d es' new w = record {
    same = λ a.
        back-append new notes a (look es' a)
        ∙ ap (back notes a) (w.taken_back a)
        ∙ u.same a
        ∙ sym (stayed d es' a (λ none. none_before new a (look es' a) (w.taken_back a ∙ none))
        (λ not. w.others a.1 not a.0));
    stands = λ a none.
        let before : look es a ≡ None = w.stands a none in
        back-append new notes a None
        ∙ ap (back notes a) (ap (back new a) (sym none) ∙ w.taken_back a ∙ before)
        ∙ u.stands a before;
    owns = AllByRecursion-append (IsOfKey (λ q. wrote t q ((d, es) ∷ past))) new notes
        (owned_more new (λ q. wrote_by t q d) (λ q. wrote t q ((d, es) ∷ past))
        (λ q h. or_left (wrote_by t q d) (wrote t q past) h) w.owns)
        (owns_more d es);
    own_runs = λ q h p made.
        let parts = or_parts (wrote_by t q d) (wrote t q past) h in
        w.others q parts.0 p ∙ u.own_runs q parts.1 p (run_of_older new notes w.no_run p made);
  }

  then_swept_law : (d : Effect) (es' es'' : List Entry) (notes' new : List Note) → Describes t ((d, es) ∷ past) es'
      notes' → Sweeps t d es' es'' new → ((a : Place) → look es a ≡ None → look es'' a ≡ look es' a) →
      Describes t ((d, es) ∷ past) es'' (new ++ notes')
  then_swept_law d es' es'' notes' new v w unmade = record {
    same = λ a.
        back-append new notes' a (look es'' a)
        ∙ ap (back notes' a) (w.taken_back a)
        ∙ v.same a
        ∙ left_so a;
    stands = λ a none.
        let before : look es' a ≡ None = w.stands a none in
        back-append new notes' a None
        ∙ ap (back notes' a) (ap (back new a) (sym none) ∙ w.taken_back a ∙ before)
        ∙ v.stands a before;
    owns = AllByRecursion-append (IsOfKey (λ q. wrote t q ((d, es) ∷ past))) new notes'
        (owned_more new (λ q. wrote_by t q d) (λ q. wrote t q ((d, es) ∷ past))
        (λ q h. or_left (wrote_by t q d) (wrote t q past) h) w.owns)
        v.owns;
    own_runs = λ q h p made.
        let parts = or_parts (wrote_by t q d) (wrote t q past) h in
        w.others q parts.0 p ∙ v.own_runs q h p (run_of_older new notes' w.no_run p made);
  }
    where
      left_so : (a : Place) → left_at t a ((d, es) ∷ past) es' ≡ left_at t a ((d, es) ∷ past) es''
      left_so a = ⊎_elim
          (λ yes. written_at d es' a yes ∙ by_slot (some_or_none (look es a)) ∙ sym (written_at d es'' a yes))
          (λ not. unwritten t a ((d, es) ∷ past) es' not ∙
          sym (w.others a.1 (or_parts (wrote_by t a.1 d) (wrote t a.1 past) not).0 a.0) ∙
          sym (unwritten t a ((d, es) ∷ past) es'' not))
          (cases_Bool (wrote t a.1 ((d, es) ∷ past)))
        where
          by_slot : ((look es a ≡ None) ⊎ ((s : Slot) × (look es a ≡ Some s))) →
              or_made (left_at t a past es) (look es' a) ≡ or_made (left_at t a past es) (look es'' a)
          by_slot x = ⊎_elim
              (λ none. ap (or_made (left_at t a past es)) (sym (unmade a none)))
              (λ some. let y = something a some.0 some.1 in ap (λ o. or_made o (look es' a)) y.1 ∙
              sym (ap (λ o. or_made o (look es'' a)) y.1))
              x

  others_law : (d : Effect) (es' : List Entry) → ((q : OrderedKey) → wrote_by t q d ≡ false) →
      ((q : OrderedKey) → wrote t q past ≡ true → (p : ℕ) → look es' (p, q) ≡ look es (p, q)) →
      ((q : OrderedKey) (p : ℕ) → is_noted_run notes p ≡ true → look es (p, q) ≡ None → look es' (p, q) ≡ None) →
      Describes t ((d, es) ∷ past) es' notes
  others_law d es' none owned runs = record {
    same = λ a. ⊎_elim
        (λ yes. let e = owned a.1 yes a.0 in ap (back notes a) e ∙ u.same a ∙ sym (kept d es' a e))
        (λ not. untouched a not ∙ sym (unwritten t a ((d, es) ∷ past) es' (either_false (none a.1) not)))
        (cases_Bool (wrote t a.1 past));
    stands = λ a e. ⊎_elim
        (λ yes. u.stands a (sym (owned a.1 yes a.0) ∙ e))
        (λ not. leaves a.1 not a.0 None (inr refl))
        (cases_Bool (wrote t a.1 past));
    owns = owns_more d es;
    own_runs = λ q h p made. runs q p made (u.own_runs q (or_parts (wrote_by t q d) (wrote t q past) h).1 p made);
  }
    where
      either_false : {a b : Bool} → a ≡ false → b ≡ false → (a || b) ≡ false
      either_false {a} {b} h k = ap (λ x. x || b) h ∙ k

      untouched : (a : Place) → wrote t a.1 past ≡ false → back notes a (look es' a) ≡ look es' a
      untouched a not = leaves a.1 not a.0 (look es' a)
          (⊎_elim (λ yes. inr (runs a.1 a.0 yes (u.own_runs a.1 not a.0 yes))) (λ no. inl no)
          (cases_Bool (is_noted_run notes a.0)))

-- the newer notes were taken back: the older ones say what looking back leaves, that far back
module _ (t : ℕ) (past : List Moment) (es : List Entry) (xs ys : List Note) (u : Describes t past es (xs ++ ys))
    (v : (a : Place) → look es a ≡ None → back xs a None ≡ None)
    (d : Effect) (es' : List Entry) (none : (q : OrderedKey) → wrote_by t q d ≡ false)
    (is : (a : Place) → look es' a ≡ back xs a (look es a)) where
  same_elsewhere : (a : Place) → wrote t a.1 past ≡ false → look es' a ≡ look es a
  same_elsewhere a not = is a ∙ unowned_leaves (λ k. wrote t k past) xs
      (AllByRecursion-front (IsOfKey (λ k. wrote t k past)) xs ys u.owns) a.1 not a.0 (look es a)
      (⊎_elim (λ yes. inr (u.own_runs a.1 not a.0 (run_before xs ys a.0 yes))) (λ no. inl no)
      (cases_Bool (is_noted_run xs a.0)))

  as_before : (a : Place) → back ys a (look es' a) ≡ left_at t a past es
  as_before a = ap (back ys a) (is a) ∙ sym (back-append xs ys a (look es a)) ∙ u.same a

  pub older_describe : Describes t ((d, es) ∷ past) es' ys
  older_describe = record {
    same = λ a. as_before a ∙ ⊎_elim
        (λ yes. sym (written_at t past es (xs ++ ys) u d es' a (or_right (wrote_by t a.1 d) (wrote t a.1 past) yes) ∙
        by_slot a (some_or_none (look es a))))
        (λ not. unwritten t a past es not ∙ sym (same_elsewhere a not) ∙
        sym (unwritten t a ((d, es) ∷ past) es' (ap (λ b. b || wrote t a.1 past) (none a.1) ∙ not)))
        (cases_Bool (wrote t a.1 past));
    stands = λ a e. let nothing_there = none_before xs a (look es a) (sym (is a) ∙ e) in
        ap (back ys a) (sym (v a nothing_there)) ∙ sym (back-append xs ys a None) ∙ u.stands a nothing_there;
    owns = AllByRecursion-back (IsOfKey (λ q. wrote t q ((d, es) ∷ past))) xs ys
        (owns_more t past es (xs ++ ys) u d es);
    own_runs = λ q h p made. let not = (or_parts (wrote_by t q d) (wrote t q past) h).1 in same_elsewhere (p, q) not ∙
        u.own_runs q not p (run_later xs ys p made);
  }
    where
      by_slot : (a : Place) → ((look es a ≡ None) ⊎ ((s : Slot) × (look es a ≡ Some s))) →
          or_made (left_at t a past es) (look es' a) ≡ left_at t a past es
      by_slot a w = ⊎_elim
          (λ n. let x = nothing t past es (xs ++ ys) u a n in ap (λ o. or_made o (look es' a)) x ∙
          ap ghosted (is a ∙ ap (back xs a) n ∙ v a n) ∙ sym x)
          (λ some. let x = something t past es (xs ++ ys) u a some.0 some.1 in ap (λ o. or_made o (look es' a)) x.1 ∙
          sym x.1)
          w

-- ---- lists

agree : (f g : ℕ → OrderedKey → Option Slot → Option Slot) (es : List Entry) →
    AllByRecursion (λ e. f e.part e.key (Some (slot_of e)) ≡ g e.part e.key (Some (slot_of e))) es →
    reslotted f es ≡ reslotted g es
agree f g [] h = refl
agree f g (e ∷ es) h = λ i. with_slot e (h.0 i) ∷ agree f g es h.1 i

composed : (f g : ℕ → OrderedKey → Option Slot → Option Slot) →
    ((a : Place) (s : Slot) → (s' : Slot) × (f a.0 a.1 (Some s) ≡ Some s')) →
    ((a : Place) (s : Slot) → (s' : Slot) × (g a.0 a.1 (Some s) ≡ Some s')) → (es : List Entry) →
    reslotted g (reslotted f es) ≡ reslotted (λ p q o. g p q (f p q o)) es
composed f g some more [] = refl
composed f g some more (e ∷ es) =
    let x = some (place_of e) (slot_of e) in
    let y = more (place_of e) x.0 in
    λ i. at_entry x.0 x.1 y.0 y.1 i ∷ composed f g some more es i
  where
    both : Option Slot → Entry
    both o = with_slot (with_slot e o) (g (with_slot e o).part (with_slot e o).key (Some (slot_of (with_slot e o))))

    at_entry : (s' : Slot) → f e.part e.key (Some (slot_of e)) ≡ Some s' → (z : Slot) →
        g e.part e.key (Some s') ≡ Some z → both (f e.part e.key (Some (slot_of e))) ≡ with_slot e
        (g e.part e.key (f e.part e.key (Some (slot_of e))))
    at_entry s' h z k = ap both h ∙ ap (λ o. with_slot (with_slot e (Some s')) o) k ∙ sym (ap (λ o. with_slot e o) k) ∙
        ap (λ o. with_slot e (g e.part e.key o)) (sym h)

-- notes taken back one by one are all taken back at each place
pub one_by_one : (notes : List Note) (es : List Entry) → taken_back notes es ≡ reslotted (notes_of.back_all notes) es
one_by_one [] es = nothing_new es
  where
    nothing_new : (es : List Entry) → es ≡ reslotted (λ p q o. o) es
    nothing_new [] = refl
    nothing_new (e ∷ es) = ap (λ l. e ∷ l) (nothing_new es)
one_by_one (n ∷ notes) es = one_by_one notes (reslotted (notes_of.back_one n) es) ∙
    composed (notes_of.back_one n) (notes_of.back_all notes) (one_some n) (back_some notes) es

pub rising-taken_back : (notes : List Note) (es : List Entry) → IsRising es → IsRising (taken_back notes es)
rising-taken_back notes es r = subst IsRising (sym (one_by_one notes es))
    (rising-reslotted (notes_of.back_all notes) es r)

-- what stands at a place of the list with the notes taken back, where they put nothing back in a place where nothing
-- stands
pub look-taken_back : (notes : List Note) (es : List Entry) (a : Place) →
    (look es a ≡ None → back notes a None ≡ None) → look (taken_back notes es) a ≡ back notes a (look es a)
look-taken_back notes es a none = ap (λ l. look l a) (one_by_one notes es) ∙ by_slot (look es a) refl
  where
    by_slot : (o : Option Slot) → look es a ≡ o → look (reslotted (notes_of.back_all notes) es) a ≡ back notes a
        (look es a)
    by_slot None e = look-reslotted_none (notes_of.back_all notes) es a e ∙ sym (ap (back notes a) e ∙ none e)
    by_slot (Some s) e = let z = back_some notes a s in look-reslotted (notes_of.back_all notes) es a s z.0 e z.1 ∙
        sym (ap (back notes a) e ∙ z.1)

module _ (t : ℕ) (past : List Moment) (es : List Entry) (notes : List Note) (u : Describes t past es notes) where
  aborted_law : IsRising es → reslotted (λ part key s. left_at t (part, key) past es) es ≡ taken_back notes es
  aborted_law r =
      agree (λ part key s. left_at t (part, key) past es) (notes_of.back_all notes) es (at_each es (stands_all es r)) ∙
      sym (one_by_one notes es)
    where
      at_each : (m : List Entry) → AllByRecursion (Stands es) m →
          AllByRecursion (λ e. left_at t (place_of e) past es ≡ back notes (place_of e) (Some (slot_of e))) m
      at_each [] h = tt
      at_each (e ∷ m) h = (sym (u.same (place_of e)) ∙ ap (back notes (place_of e)) h.0, at_each m h.1)

  pub describe_laws : DescribeLaws t past es notes
  describe_laws = record {
    changed = λ d es' p k s s' w there there' differ. swept_law t past es notes u d es' (Before p k s.0 s.1 ∷ [])
        (sweeps_one t d es es' p k s s' w there there' differ);
    made = made_law t past es notes u;
    loaded = loaded_law t past es notes u;
    swept = swept_law t past es notes u;
    then_swept = then_swept_law t past es notes u;
    others = others_law t past es notes u;
    aborted = aborted_law;
  }
