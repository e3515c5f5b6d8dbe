-- Taking back works place by place, so what a transaction's notes restore is not touched by the others.
use Rattle.std.proofs.Common.{◌≡◌, ℕ, List, [], ◌∷◌, Bool, true, false, cond, Option, Some, None, refl, sym, ap, ◌∙◌}
use Rattle.std.proofs.Common.{subst, inl, inr, ⊎_elim}
use Rattle.std.specs.Prelude.{is_some, ◌==◌}
use Rattle.std.specs.List.{AllByRecursion}
use Rattle.std.specs.FinMap.{get}
use Rattle.std.proofs.lemmas.Bool.{cases_Bool, cond-true, cond-false, both_ways, false_from_ne_true, eqb-true}
use Rattle.am_record.specs.OrderedKey.{OrderedKey}
use Rattle.am_record.specs.EntryOrder.{Place}
use Rattle.am_record.specs.declared.entry.Entry.{Entry}
use Rattle.am_index.specs.Entries.{slot_of, find, insert_entry, set_entry, IsRising}
use Rattle.am_index.specs.Edits.{same_place, IsChangedAt, EditLaws}
use Rattle.am_index.specs.Content.{content, OnePlace, live_value, HasOne, values_at}
use Rattle.am_index.proofs.Edits.{one_place}
use Rattle.am_index.proofs.EditLaws.{edit_laws}
use Rattle.am_index.proofs.Content.{content_has_one, has_one_along, same_has_one}
use Rattle.am_store_undo.specs.declared.note.Note.{Note}
use Rattle.am_store_undo.specs.declared.note.Note.TheVariants.{New, Before, RunMade}
use Rattle.am_store_undo.specs.Notes.{ghosted, back_all, TakesBack, back_at, OneLive, CanTakeBack}
use Rattle.am_store_undo.specs.Undo.{IsOwned, Undoes, LeavesNoted, LoadsRun, UndoLaws}
use Rattle.am_store_undo.proofs.Slots.{MoreGhosts, ghosted_dead, back_none, can_note, same_value, other_place}
use Rattle.am_store_undo.proofs.Slots.{all_owned}
use Rattle.am_store_undo.proofs.Slots.{all_left, owned_along, can_others}

pub one_live : {es : List Entry} → OnePlace es → OneLive (find es)
one_live one = record {
  one = λ key p p' v v' h h'. one.one key p p' v v' (record { there = h }) (record { there = h' });
}

-- no transaction that changed nothing has to take back anything
pub nothing_undone : (es : List Entry) (before : OrderedKey → Option (List ℕ)) → Undoes es [] (λ _. false) before
nothing_undone es before = record { can = tt; owns = tt; restores = λ key h. absurd (cc) }

-- ---- what taking back the newest note gives: what stood before, but for ghosts where nothing stood

pub changed_more : (es : List Entry) → IsRising es → (part : ℕ) (key : OrderedKey) (old : List ℕ) (was_ghost : Bool)
    (value : List ℕ) (is_ghost : Bool) → find es part key ≡ Some (old, was_ghost)
    → MoreGhosts (find es) (back_at (Before part key old was_ghost) (find (set_entry es part key value is_ghost)))
changed_more es rising part key old was_ghost value is_ghost there =
    let es' = set_entry es part key value is_ghost in
    let change = (edit_laws es rising).change.reset part key value is_ghost (ap is_some there) in
    record {
      at = λ p k. inl (⊎_elim
          (λ yes. cond-true (same_place p k part key) (Some (old, was_ghost)) (find es' p k) yes ∙ sym there ∙
          ap (λ (q : Place). find es q.0 q.1) (sym (one_place (p, k) (part, key) yes)))
          (λ no. cond-false (same_place p k part key) (Some (old, was_ghost)) (find es' p k) no ∙
          change.elsewhere p k no)
          (cases_Bool (same_place p k part key)));
    }

made_changes : (es : List Entry) → IsRising es → (x : Entry) (part : ℕ) → x.part ≡ part → part ≡ 0 →
    IsChangedAt es (insert_entry es x) 0 x.key (Some (slot_of x))
made_changes es rising x part is zero = subst (λ p. IsChangedAt es (insert_entry es x) p x.key (Some (slot_of x)))
    (is ∙ zero) ((edit_laws es rising).change.inserted x)

pub made_more : (es : List Entry) → IsRising es → (x : Entry) → x.part ≡ 0 → find es 0 x.key ≡ None →
    MoreGhosts (find es) (back_at (New x.key) (find (insert_entry es x)))
made_more es rising x zero absent =
    let es' = insert_entry es x in
    let change = made_changes es rising x x.part refl zero in
    record {
      at = λ p k. ⊎_elim
          (λ yes. inr (
            ap (λ (q : Place). find es q.0 q.1) (one_place (p, k) (0, x.key) yes) ∙ absent,
            ap live_value (cond-true (same_place p k 0 x.key) (ghosted (find es' p k)) (find es' p k) yes) ∙
                ghosted_dead (find es' p k),
          ))
          (λ no. inl (cond-false (same_place p k 0 x.key) (ghosted (find es' p k)) (find es' p k) no ∙
          change.elsewhere p k no))
          (cases_Bool (same_place p k 0 x.key));
    }

module _ (es : List Entry) (notes : List Note) (owned : OrderedKey → Bool) (before : OrderedKey → Option (List ℕ))
    (rising : IsRising es) (one : OnePlace es) (u : Undoes es notes owned before) where
  edits : EditLaws es
  edits = edit_laws es rising

  -- another's key stands as it stood
  left : (key : OrderedKey) → owned key ≡ false → (part : ℕ) → back_all notes part key (find es part key) ≡ find es part
      key
  left key h part = all_left owned notes (find es) u.owns key h part

  locked_law : (owned' : OrderedKey → Bool) → ((key : OrderedKey) → owned key ≡ true → owned' key ≡ true) →
      ((key : OrderedKey) → owned' key ≡ true → owned key ≡ false → before key ≡ get (content es) key) →
      Undoes es notes owned' before
  locked_law owned' more new = record {
    can = u.can;
    owns = all_owned owned (IsOwned owned (find es)) (IsOwned owned' (find es)) still notes u.owns;
    restores = λ key h. ⊎_elim
        (λ old. u.restores key old)
        (λ not. subst (HasOne (λ p. live_value (back_all notes p key (find es p key)))) (sym (new key h not))
        (has_one_along (λ p. ap live_value (left key not p)) (content_has_one es rising one key)))
        (cases_Bool (owned key));
  }
    where
      less : (key : OrderedKey) → owned' key ≡ false → owned key ≡ false
      less key h = false_from_ne_true (owned key) (λ e. both_ways (owned' key) h (more key e))

      still : (m : Note) → IsOwned owned (find es) m → IsOwned owned' (find es) m
      still (New k) h = more k h
      still (Before p k value is_ghost) h = more k h
      still (RunMade p) h = λ key n. h key (less key n)

  -- one more note n, which gives what stood before, but for ghosts where nothing stood
  noted : (es' : List Entry) (n : Note) → CanTakeBack (n ∷ notes) (find es') →
      MoreGhosts (find es) (back_at n (find es')) → IsOwned owned (find es') n →
      AllByRecursion (IsOwned owned (find es'))
      notes
      → Undoes es' (n ∷ notes) owned before
  noted es' n can more own owns = record {
    can = can;
    owns = (own, owns);
    restores = λ key h. has_one_along (λ p. same_value notes (find es) (back_at n (find es')) u.can more p key)
        (u.restores key h);
  }

  -- a change at one place of an owned key adds nothing to a run that was noted
  still_owned : (es' : List Entry) (part : ℕ) (key : OrderedKey) → owned key ≡ true →
      ((p : ℕ) (k : OrderedKey) → same_place p k part key ≡ false → find es' p k ≡ find es p k)
      → AllByRecursion (IsOwned owned (find es')) notes
  still_owned es' part key own elsewhere = all_owned owned (IsOwned owned (find es)) (IsOwned owned (find es')) still
      notes u.owns
    where
      still : (m : Note) → IsOwned owned (find es) m → IsOwned owned (find es') m
      still (New k) h = h
      still (Before p k value is_ghost) h = h
      still (RunMade p) h = λ k n. elsewhere p k (other_place owned p part k key n own) ∙ h k n

  changed_law : (part : ℕ) (key : OrderedKey) (old : List ℕ) (was_ghost : Bool) (value : List ℕ) (is_ghost : Bool) →
      owned key ≡ true →
      find es part key ≡ Some (old, was_ghost) → Undoes (set_entry es part key value is_ghost)
      (Before part key old was_ghost ∷ notes) owned before
  changed_law part key old was_ghost value is_ghost own there =
      let change = edits.change.reset part key value is_ghost (ap is_some there) in
      let more = changed_more es rising part key old was_ghost value is_ghost there in
      noted (set_entry es part key value is_ghost) (Before part key old was_ghost)
      (can_note (Before part key old was_ghost) notes (find es) (find (set_entry es part key value is_ghost))
      (ap is_some change.here) more (one_live one) u.can)
      more own (still_owned (set_entry es part key value is_ghost) part key own change.elsewhere)

  made_law : (x : Entry) → x.part ≡ 0 → owned x.key ≡ true → find es 0 x.key ≡ None →
      Undoes (insert_entry es x) (New x.key ∷ notes) owned before
  made_law x zero own absent =
      let change = made_changes es rising x x.part refl zero in
      let more = made_more es rising x zero absent in
      noted (insert_entry es x) (New x.key)
      (can_note (New x.key) notes (find es) (find (insert_entry es x)) (ap is_some change.here) more (one_live one)
      u.can)
      more own (still_owned (insert_entry es x) 0 x.key own change.elsewhere)

  loaded_law : (es' : List Entry) (run : ℕ) → LoadsRun es es' run owned → Undoes es' (RunMade run ∷ notes) owned before
  loaded_law es' run load =
      let more : MoreGhosts (find es) (back_at (RunMade run) (find es')) = record {
        at = λ p k. ⊎_elim
            (λ yes. inr (
              ap (λ r. find es r k) (eqb-true p run yes) ∙ load.fresh k,
              ap live_value (cond-true (p == run) (ghosted (find es' p k)) (find es' p k) yes) ∙
                  ghosted_dead (find es' p k),
            ))
            (λ no. inl (cond-false (p == run) (ghosted (find es' p k)) (find es' p k) no ∙ load.elsewhere p k no))
            (cases_Bool (p == run));
      } in
      noted es' (RunMade run)
      (can_note (RunMade run) notes (find es) (find es') tt more (one_live one) u.can)
      more load.own (all_owned owned (IsOwned owned (find es)) (IsOwned owned (find es')) still notes u.owns)
    where
      still : (m : Note) → IsOwned owned (find es) m → IsOwned owned (find es') m
      still (New k) h = h
      still (Before p k value is_ghost) h = h
      still (RunMade p) h = λ k n. ⊎_elim
          (λ yes. ap (λ r. find es' r k) (eqb-true p run yes) ∙ load.own k n)
          (λ no. load.elsewhere p k no ∙ h k n)
          (cases_Bool (p == run))

  others_law : (es' : List Entry) (before' : OrderedKey → Option (List ℕ)) → OnePlace es' →
      LeavesNoted es es' notes owned →
      ((key : OrderedKey) → owned key ≡ true → before' key ≡ before key) → Undoes es' notes owned before'
  others_law es' before' one' leaves is =
      let owns = owned_along owned (find es) (find es') notes leaves.runs u.owns in
      record {
        can = can_others owned notes (find es) (find es') leaves.same (one_live one') owns u.can;
        owns = owns;
        restores = λ key h. subst (HasOne (λ p. live_value (back_all notes p key (find es' p key)))) (sym (is key h))
            (has_one_along (λ p. ap (λ s. live_value (back_all notes p key s)) (leaves.same key h p))
            (u.restores key h));
      }

  module _ (es' : List Entry) (b : TakesBack notes es es') where
    after_back : (key : OrderedKey) → HasOne (values_at es' key) (cond (owned key) (before key) (get (content es) key))
    after_back key = ⊎_elim
        (λ yes. subst (HasOne (values_at es' key)) (sym (cond-true (owned key) (before key) (get (content es) key) yes))
        (has_one_along (λ p. ap live_value (b.at p key)) (u.restores key yes)))
        (λ no. subst (HasOne (values_at es' key)) (sym (cond-false (owned key) (before key) (get (content es) key) no))
        (has_one_along (λ p. ap live_value (b.at p key ∙ left key no p)) (content_has_one es rising one key)))
        (cases_Bool (owned key))

    one_place_law : OnePlace es'
    one_place_law = record {
      one = λ key p p' v v' l l'. (after_back key).one p p' v v' (ap live_value l.there)
          (ap live_value l'.there);
    }

    restored_law : (key : OrderedKey) → get (content es') key ≡ cond (owned key) (before key) (get (content es) key)
    restored_law key = same_has_one (values_at es' key) (get (content es') key)
        (cond (owned key) (before key) (get (content es) key)) (content_has_one es' (b.rising rising) one_place_law key)
        (after_back key)

    untouched_law : (key : OrderedKey) → owned key ≡ false → (part : ℕ) → find es' part key ≡ find es part key
    untouched_law key h part = b.at part key ∙ left key h part

    none_made_law : (part : ℕ) (key : OrderedKey) → find es part key ≡ None → find es' part key ≡ None
    none_made_law part key none = b.at part key ∙ ap (back_all notes part key) none ∙
        back_none notes (find es) part key u.can none

  pub undo_laws : UndoLaws es notes owned before
  undo_laws = record {
    own = record { locked = locked_law; changed = changed_law; made = made_law; loaded = loaded_law };
    others = others_law;
    taken_back = λ es' b. record {
      one_place = one_place_law es' b;
      restored = restored_law es' b;
      untouched = untouched_law es' b;
      none_made = none_made_law es' b;
      leaves_others = λ notes' owned' apart. record {
        same = λ key h part. untouched_law es' b key (apart key h) part;
        runs = λ part key run none. none_made_law es' b part key none;
      };
    };
  }
