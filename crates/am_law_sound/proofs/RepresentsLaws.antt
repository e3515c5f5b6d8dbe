-- The laws, from those of the machine's steps and of the notes.
use Rattle.std.proofs.Common.{◌≡◌, ◌≢◌, ℕ, List, [], ◌∷◌, ◌++◌, map, length, Bool, true, false, cond, refl, sym, ap}
use Rattle.std.proofs.Common.{◌∙◌, subst, ⊎_elim, Option, Some, None}
use Rattle.std.specs.Prelude.{◌==◌}
use Rattle.std.specs.List.{AllByRecursion}
use Rattle.std.specs.FinMap.{get, same_map}
use Rattle.std.proofs.lemmas.Bool.{false≢true, true≢false, both_ways, cases_Bool, cond-true, cond-false, eqb-true}
use Rattle.std.proofs.lemmas.Bool.{eqb-false, false_from_ne_true}
use Rattle.std.proofs.lemmas.List.{map-append}
use Rattle.am_record.specs.OrderedKey.{OrderedKey, key_cmp-total, key_cmp-exact}
use Rattle.am_record.specs.Plain.{PlainMap, Draft, map_answer, map_after, answer, draft_after, went_back, draft_back}
use Rattle.am_record.specs.Plain.{left, fresh}
use Rattle.am_record.specs.Asks.{lock_of, with_asked, owns, owns_key}
use Rattle.am_record.specs.declared.lock.Lock.{Lock}
use Rattle.am_record.specs.declared.entry.Entry.{Entry}
use Rattle.am_record.specs.declared.step.Op.{Op}
use Rattle.am_record.specs.declared.step.Op.TheVariants.{Mark, Back}
use Rattle.am_record.specs.declared.step.Reply.{Reply}
use Rattle.am_record.specs.declared.step.Reply.TheVariants.{Done, NoMark}
use Rattle.am_index.specs.Entries.{find, IsRising}
use Rattle.am_index.specs.Content.{content, OnePlace, HasContent}
use Rattle.am_store_undo.specs.declared.note.Note.{Note}
use Rattle.am_store_undo.specs.Notes.{TakesBack}
use Rattle.am_store_undo.specs.Undo.{Undoes, NotesTakenBack, LeavesNoted}
use Rattle.am_record.specs.Marks.{since_mark, until_mark, older, has_mark}
use Rattle.am_store_undo.specs.Marks.{UndoesEach, AllPairs, SameOwned, MarkLaws}
use Rattle.am_store_undo.specs.Marks as marks_of
use Rattle.am_store_undo.proofs.TakeBacks.{undo_laws, nothing_undone}
use Rattle.am_store_undo.proofs.NotesSinceMarks.{mark_laws}
use Rattle.am_law_serial.specs.Trace.{Answered, Begins, Answers, Commits, Aborts, left_by_bodies, ops_of, runs_made}
use Rattle.am_law_serial.specs.Machine.{State, Transaction, start, is_open, view, locks_in, due, next, overlay_in}
use Rattle.am_law_serial.specs.Machine.{owns_in}
use Rattle.am_law_serial.specs.Machine.{holds_in}
use Rattle.am_law_serial.specs.Agreement.{AllAgree, AllHave}
use Rattle.am_law_serial.specs.Steps.{StepLaws, IsGranted}
use Rattle.am_law_serial.specs.Laws.{is_back, OverlayLaws, ViewLaws}
use Rattle.am_law_serial.proofs.Bodies.{owns_holds, asked_keeps, asked_has, asked_only, owns_key_up, not_held}
use Rattle.am_law_effect.specs.Operations.{is_plain}
use Rattle.am_law_serial.proofs.Maps.{of_asked}
use Rattle.am_law_sound.specs.Represents.{Represents, asks_own, stored_answer, may_write, KeepsRuns, Does}
use Rattle.am_law_sound.specs.Represents.{RepresentsNext}

-- ---- operations

pub plain_no_back : (op : Op) → is_plain op ≡ true → is_back op ≡ false
plain_no_back Back h = absurd (false≢true h)
plain_no_back op h = refl

pub plain_told : (op : Op) (marks : List ℕ) (m : PlainMap) → is_plain op ≡ true → stored_answer op marks m ≡ map_answer
    op m
plain_told Back marks m h = absurd (false≢true h)
plain_told op marks m h = refl

plain_saved : (op : Op) (d : Draft) → is_plain op ≡ true → (draft_after op d).saved ≡ d.saved
plain_saved Mark d h = absurd (false≢true h)
plain_saved Back d h = absurd (false≢true h)
plain_saved op d h = refl

pub same_ask : (a : Option Lock) (q : OrderedKey) → asks_own a q ≡ of_asked (owns_key q) a
same_ask None q = refl
same_ask (Some l) q = refl

-- ---- lists of saved maps

same_self : (owned : OrderedKey → Bool) (ms : List PlainMap) → AllPairs (SameOwned owned) ms ms
same_self owned [] = tt
same_self owned (m ∷ ms) = (λ q h. refl, same_self owned ms)

same_pairs : (S owned : OrderedKey → Bool) → ((q : OrderedKey) → owned q ≡ true → S q ≡ true) →
    (ms ns : List PlainMap) → AllAgree S ms ns → AllPairs (SameOwned owned) ms ns
same_pairs S owned w [] [] a = tt
same_pairs S owned w (m ∷ ms) (n ∷ ns) a = (λ q h. sym (a.0.at q (w q h)), same_pairs S owned w ms ns a.1)
same_pairs S owned w [] (n ∷ ns) a = absurd a
same_pairs S owned w (m ∷ ms) [] a = absurd a

-- the maps have the content at the keys that are owned now and weren't, where they have there what was committed
have_content : (es : List Entry) (owned owned' : OrderedKey → Bool) (c : PlainMap) →
    marks_of.IsContentAt es owned owned' c → (ms : List PlainMap) →
    ((q : OrderedKey) → owned' q ≡ true → owned q ≡ false → AllHave q c ms) →
    AllByRecursion (marks_of.IsContentAt es owned owned') ms
have_content es owned owned' c h [] a = tt
have_content es owned owned' c h (m ∷ ms) a =
    (λ q now not. (a q now not).0 ∙ h q now not, have_content es owned owned' c h ms (λ q now not. (a q now not).1))

-- as many marks as maps
any_is : (es : List Entry) (notes : List Note) (owned : OrderedKey → Bool) (c : PlainMap) (n : ℕ) (marks : List ℕ)
    (saved : List PlainMap) → UndoesEach es notes owned c n marks saved → went_back saved ≡ cond (has_mark marks) Done
    NoMark
any_is es notes owned c n [] [] u = refl
any_is es notes owned c n (m ∷ marks) (s ∷ saved) u = refl
any_is es notes owned c n [] (s ∷ saved) u = absurd u
any_is es notes owned c n (m ∷ marks) [] u = absurd u

record Newest (saved : List PlainMap) : Type 0 where
  map : PlainMap
  rest : List PlainMap
  is : saved ≡ map ∷ rest

newest_of : (es : List Entry) (notes : List Note) (owned : OrderedKey → Bool) (c : PlainMap) (n : ℕ) (marks : List ℕ)
    (saved : List PlainMap) → has_mark marks ≡ true → UndoesEach es notes owned c n marks saved → Newest saved
newest_of es notes owned c n [] saved some u = absurd (false≢true some)
newest_of es notes owned c n (m ∷ marks) (s ∷ saved) some u = record { map = s; rest = saved; is = refl }
newest_of es notes owned c n (m ∷ marks) [] some u = absurd u

none_saved : (es : List Entry) (notes : List Note) (owned : OrderedKey → Bool) (c : PlainMap) (n : ℕ) (marks : List ℕ)
    (saved : List PlainMap) → has_mark marks ≡ false → UndoesEach es notes owned c n marks saved → saved ≡ []
none_saved es notes owned c n [] [] none u = refl
none_saved es notes owned c n [] (s ∷ saved) none u = absurd u
none_saved es notes owned c n (m ∷ marks) saved none u = absurd (true≢false none)

left_by_none : (bodies : List (List Answered)) (m : PlainMap) → left_by_bodies (bodies ++ [] ∷ []) m ≡ left_by_bodies
    bodies m
left_by_none [] m = refl
left_by_none (b ∷ bodies) m = left_by_none bodies (left (ops_of b) m)

-- ---- at a state

-- the notes of a transaction that holds these locks and sees this
abbrev Each : List Entry → List Note → List Lock → PlainMap → List ℕ → Draft → Type 0
Each es notes locks c marks d = UndoesEach es notes (λ q. owns locks q) c (length notes) marks d.saved

module _ (s : State) (o : OverlayLaws s) (w : ViewLaws s) (st : StepLaws s) (es : List Entry) (notes : ℕ → List Note)
    (marks : ℕ → List ℕ) (at : Represents s es notes marks) where
  abbrev rising : IsRising es
  rising = at.has.rising

  abbrev one : OnePlace es
  one = at.has.one_place

  laws : (t : ℕ) → is_open s.active t ≡ true → MarkLaws es (notes t) (owns_in s t) s.committed (marks t)
      (view s t).saved
  laws t on = mark_laws es (notes t) (owns_in s t) s.committed rising one (marks t) (view s t).saved (at.undoes t on)

  -- a step of others that leaves its keys and its runs as they are
  others : (t : ℕ) → is_open s.active t ≡ true → (es' : List Entry) → OnePlace es' →
      LeavesNoted es es' (notes t) (owns_in s t) → Each es' (notes t) (locks_in s.active t) s.committed (marks t)
      (view s t)
  others t on es' one' leaves = (laws t on).others es' s.committed (view s t).saved one' leaves
      (λ q h. refl, same_self (owns_in s t) (view s t).saved)

  -- what one owns, another doesn't
  apart : (t u : ℕ) → is_open s.active t ≡ true → is_open s.active u ≡ true → u ≢ t → (q : OrderedKey) →
      owns_in s u q ≡ true → owns_in s t q ≡ false
  apart t u ht hu n q h = w.apart u t q hu ht n (owns_holds (locks_in s.active u) q h)

  answered_law : (t : ℕ) (op : Op) → due false s t op ≡ None → answer op (view s t) ≡ stored_answer op (marks t)
      (content es)
  answered_law t op none = by_op op none
    where
      plain : (op : Op) → is_plain op ≡ true → due false s t op ≡ None → answer op (view s t) ≡ stored_answer op
          (marks t)
          (content es)
      plain op h none = (o.granted t op (plain_no_back op h) none).answered ∙ ap (map_answer op) (sym at.has.same) ∙
          sym (plain_told op (marks t) (content es) h)

      by_op : (op : Op) → due false s t op ≡ None → answer op (view s t) ≡ stored_answer op (marks t) (content es)
      by_op Mark none = refl
      by_op Back none = let on = (st.granted t Back none).is_active in any_is es (notes t) (owns_in s t) s.committed
          (length (notes t)) (marks t) (view s t).saved (at.undoes t on)
      by_op op none = plain op refl none

  made_law : (t : ℕ) (op : Op) → due false s t op ≡ None → (reply : Reply) →
      runs_made (view s t).map op reply ≡ runs_made (content es) op reply
  made_law t Back none reply = refl
  made_law t op none reply = (o.granted t op refl none).made reply ∙
      ap (λ (m : PlainMap). runs_made m op reply) (sym at.has.same)

  -- ---- an operation is answered

  module _ (t : ℕ) (op : Op) (none : due false s t op ≡ None) (reply : Reply) where
    abbrev s' : State
    s' = next s (Answers t op reply)

    granted : IsGranted s t op
    granted = st.granted t op none

    -- the others, where their keys are as they were
    other : (es' : List Entry) → OnePlace es' → (u : ℕ) → u ≢ t → is_open s'.active u ≡ true →
        (is_open s.active u ≡ true → LeavesNoted es es' (notes u) (owns_in s u)) →
        Each es' (notes u) (locks_in s'.active u) s.committed (marks u) (view s' u)
    other es' one' u n on leaves =
        let x = st.answers_others t op reply u n in
        let was = sym x.keeps.is_active ∙ on in
        subst (λ (d : Draft). Each es' (notes u) (locks_in s'.active u) s.committed (marks u) d) (sym x.view)
        (subst (λ (ls : List Lock). Each es' (notes u) ls s.committed (marks u) (view s u)) (sym x.keeps.locks)
        (others u was es' one' (leaves was)))

    -- its own notes, by what it sees then
    itself : (es' : List Entry) (ns : List Note) (ms : List ℕ) (ss : List PlainMap) →
        ss ≡ (draft_after op (view s t)).saved → UndoesEach es' ns
        (λ q. owns (with_asked (locks_in s.active t) (lock_of op)) q) s.committed (length ns) ms ss →
        Each es' ns (locks_in s'.active t) s.committed ms (view s' t)
    itself es' ns ms ss e u =
        let x = st.answers t op reply granted.is_active in
        subst (λ (d : Draft). Each es' ns (locks_in s'.active t) s.committed ms d) (sym x.view)
        (subst (λ (ls : List Lock). Each es' ns ls s.committed ms (draft_after op (view s t))) (sym x.locks)
        (subst (UndoesEach es' ns (λ q. owns (with_asked (locks_in s.active t) (lock_of op)) q) s.committed (length ns)
        ms) e u))

    -- another's key isn't written
    not_written : (u : ℕ) → is_open s.active u ≡ true → u ≢ t → (q : OrderedKey) → owns_in s u q ≡ true →
        may_write op q ≡ false
    not_written u hu n q h = false_from_ne_true (may_write op q)
        (λ m. not_held (lock_of op) (locks_in s.active u) q (granted.free u hu n) (sym (same_ask (lock_of op) q) ∙ m)
        (owns_holds (locks_in s.active u) q h))

    -- ---- Mark and Back aside

    module _ (es' : List Entry) (new : List Note) (plain : is_plain op ≡ true) (d : Does es notes t op es' new) where
      abbrev owned' : OrderedKey → Bool
      owned' q = owns (with_asked (locks_in s.active t) (lock_of op)) q

      -- what nobody owned is as it was committed
      new_content : (q : OrderedKey) → owned' q ≡ true → owns_in s t q ≡ false → get s.committed q ≡ get (content es) q
      new_content q h other =
          let written : of_asked (owns_key q) (lock_of op) ≡ true =
          ⊎_elim (λ old. absurd (both_ways (owns_in s t q) other old)) (λ new. new)
          (asked_only (owns_key q) (locks_in s.active t) (lock_of op) h) in
          sym (w.unowned q (λ u on. ⊎_elim
          (λ e. subst (λ x. owns_in s x q ≡ false) (sym (eqb-true u t e)) other)
          (λ n. false_from_ne_true (owns_in s u q) (λ k. not_held (lock_of op) (locks_in s.active u) q
          (granted.free u on (eqb-false u t n)) written (owns_holds (locks_in s.active u) q k)))
          (cases_Bool (u == t))))
          ∙ ap (λ (m : PlainMap). get m q) (sym at.has.same)

      own : UndoesEach es' (new ++ notes t) (λ q. owned' q) s.committed (length (new ++ notes t)) (marks t)
          (view s t).saved
      own = (laws t granted.is_active).own es' new (λ q. owned' q)
          (λ part m has u. d.own part (λ q. owned' q) (λ q. get m q)
          (λ q mw. asked_has (owns_key q) (owns_key_up q) (locks_in s.active t) (lock_of op)
          (sym (same_ask (lock_of op) q) ∙ mw))
          ((undo_laws es part (owns_in s t) (λ q. get m q) rising one u).own.locked (λ q. owned' q)
          (λ q h. asked_keeps (owns_key q) (locks_in s.active t) (lock_of op) h) has)) (
            new_content,
            have_content es (owns_in s t) (λ q. owned' q) s.committed new_content (view s t).saved
                (λ q h no. (w.framed t q granted.is_active no).saved),
          )

      by_case : (u : ℕ) → is_open s'.active u ≡ true → (b : Bool) → (t == u) ≡ b →
          Each es' (cond b (new ++ notes u) (notes u)) (locks_in s'.active u) s.committed (marks u) (view s' u)
      by_case u on true e = subst (λ x. Each es' (new ++ notes x) (locks_in s'.active x) s.committed (marks x)
          (view s' x)) (eqb-true t u e)
          (itself es' (new ++ notes t) (marks t) (view s t).saved (sym (plain_saved op (view s t) plain)) own)
      by_case u on false e = let n : u ≢ t = λ k. eqb-false t u e (sym k) in
          other es' d.has.one_place u n on (λ was. record {
            same = λ q h p. d.only p q (not_written u was n q h);
            runs = λ p q run gone. d.keeps u n p q run gone;
          })

  done_law : (t : ℕ) (op : Op) (es' : List Entry) (new : List Note) → due false s t op ≡ None → is_plain op ≡ true →
      Does es notes t op es' new →
      Represents (next s (Answers t op (answer op (view s t)))) es' (λ u. cond (t == u) (new ++ notes u) (notes u))
      marks
  done_law t op es' new none plain d = record {
    has = record {
      rising = d.has.rising;
      one_place = d.has.one_place;
      same = d.has.same ∙ ap (map_after op) at.has.same ∙ sym (o.granted t op (plain_no_back op plain) none).changed;
    };
    undoes = λ u on. by_case t op none (answer op (view s t)) es' new plain d u on (t == u) refl;
  }

  -- ---- Mark

  leaves_itself : (u : ℕ) → LeavesNoted es es (notes u) (owns_in s u)
  leaves_itself u = record { same = λ q h p. refl; runs = λ p q run gone. gone }

  marked_law : (t : ℕ) → due false s t Mark ≡ None → Represents (next s (Answers t Mark Done)) es notes
      (λ u. cond (t == u) (length (notes u) ∷ marks u) (marks u))
  marked_law t none = record {
    has = record { rising = rising; one_place = one; same = at.has.same ∙ sym (o.granted t Mark refl none).changed };
    undoes = λ u on. by_mark u on (t == u) refl;
  }
    where
      then : State
      then = next s (Answers t Mark Done)

      on : is_open s.active t ≡ true
      on = (st.granted t Mark none).is_active

      own : UndoesEach es (notes t) (owns_in s t) s.committed (length (notes t)) (length (notes t) ∷ marks t)
          ((view s t).map ∷ (view s t).saved)
      own = (laws t on).marked (view s t).map (λ q h. sym
          ((w.stands t on).at q (owns_holds (locks_in s.active t) q h)) ∙
          ap (λ (m : PlainMap). get m q) (sym at.has.same))

      by_mark : (u : ℕ) → is_open then.active u ≡ true → (b : Bool) → (t == u) ≡ b →
          Each es (notes u) (locks_in then.active u) s.committed (cond b (length (notes u) ∷ marks u) (marks u))
          (view then u)
      by_mark u hu true e = subst (λ x. Each es (notes x) (locks_in then.active x) s.committed
          (length (notes x) ∷ marks x) (view then x)) (eqb-true t u e)
          (itself t Mark none Done es (notes t) (length (notes t) ∷ marks t) ((view s t).map ∷ (view s t).saved) refl
          own)
      by_mark u hu false e = other t Mark none Done es one u (λ k. eqb-false t u e (sym k)) hu (λ was. leaves_itself u)

  -- ---- notes taken back, of one that owns no key together with the others

  module _ (t : ℕ) (on : is_open s.active t ≡ true) (part : List Note) (m : PlainMap)
      (v : Undoes es part (owns_in s t) (λ q. get m q)) (es' : List Entry) (b : TakesBack part es es') where
    abbrev its : NotesTakenBack es es' part (owns_in s t) (λ q. get m q)
    its = (undo_laws es part (owns_in s t) (λ q. get m q) rising one v).taken_back es' b

    leaves : (u : ℕ) → is_open s.active u ≡ true → u ≢ t → LeavesNoted es es' (notes u) (owns_in s u)
    leaves u hu n = its.leaves_others (notes u) (owns_in s u) (λ q h. apart t u on hu n q h)

    restored_has : (z : State) → ((q : OrderedKey) → get (overlay_in z) q ≡ cond (owns_in s t q) (get m q)
        (get (overlay_in s) q)) → HasContent es' (overlay_in z)
    restored_has z law = record {
      rising = b.rising rising;
      one_place = its.one_place;
      same = same_map key_cmp-total key_cmp-exact _ _
          (λ q. its.restored q ∙ ap (λ (n : PlainMap). cond (owns_in s t q) (get m q) (get n q)) at.has.same ∙
          sym (law q));
    }

  -- ---- Back

  module _ (t : ℕ) (none : due false s t Back ≡ None) where
    back_on : is_open s.active t ≡ true
    back_on = (st.granted t Back none).is_active

    backed_law : (es' : List Entry) → has_mark (marks t) ≡ true → TakesBack (since_mark (marks t) (notes t)) es es' →
        Represents (next s (Answers t Back Done)) es' (λ u. cond (t == u) (until_mark (marks u) (notes u)) (notes u))
        (λ u. cond (t == u) (older (marks u)) (marks u))
    backed_law es' some b = record {
      has = restored_has t back_on (since_mark (marks t) (notes t)) n.map both.0 es' b then (λ q.
          sym (ap (λ r. get (overlay_in (next s (Answers t Back r))) q) (ap went_back n.is))
          ∙ o.goes_back t none q ∙ ap (λ (l : List PlainMap). cond (owns_in s t q) (get (draft_back l (view s t)).map q)
          (get (overlay_in s) q)) n.is);
      undoes = λ u on. by_back u on (t == u) refl;
    }
      where
        then : State
        then = next s (Answers t Back Done)

        n : Newest (view s t).saved
        n = newest_of es (notes t) (owns_in s t) s.committed (length (notes t)) (marks t) (view s t).saved some
            (at.undoes t back_on)

        both : Undoes es (since_mark (marks t) (notes t)) (owns_in s t) (λ q. get n.map q) ×
            UndoesEach es' (until_mark (marks t) (notes t)) (owns_in s t) s.committed
            (length (until_mark (marks t) (notes t))) (older (marks t)) n.rest
        both = (laws t back_on).backed es' n.map n.rest n.is b

        by_back : (u : ℕ) → is_open then.active u ≡ true → (c : Bool) → (t == u) ≡ c →
            Each es' (cond c (until_mark (marks u) (notes u)) (notes u)) (locks_in then.active u) s.committed
            (cond c (older (marks u)) (marks u)) (view then u)
        by_back u hu true e = subst (λ x. Each es' (until_mark (marks x) (notes x)) (locks_in then.active x) s.committed
            (older (marks x)) (view then x)) (eqb-true t u e)
            (itself t Back none Done es' (until_mark (marks t) (notes t)) (older (marks t)) n.rest
            (sym (ap (λ (l : List PlainMap). (draft_back l (view s t)).saved) n.is)) both.1)
        by_back u hu false e = let k : u ≢ t = λ k. eqb-false t u e (sym k) in
            other t Back none Done es' ((its t back_on (since_mark (marks t) (notes t)) n.map both.0 es' b).one_place) u
            k hu
            (λ was. leaves t back_on (since_mark (marks t) (notes t)) n.map both.0 es' b u was k)

    stayed_law : has_mark (marks t) ≡ false → Represents (next s (Answers t Back NoMark)) es notes marks
    stayed_law without = record {
      has = record {
        rising = rising;
        one_place = one;
        same = same_map key_cmp-total key_cmp-exact _ _ (λ q. ap (λ (m : PlainMap). get m q) at.has.same ∙
            sym (stands_same q));
      };
      undoes = λ u on. by_stay u on (t == u) refl;
    }
      where
        then : State
        then = next s (Answers t Back NoMark)

        empty_saved : (view s t).saved ≡ []
        empty_saved = none_saved es (notes t) (owns_in s t) s.committed (length (notes t)) (marks t) (view s t).saved
            without (at.undoes t back_on)

        stands_same : (q : OrderedKey) → get (overlay_in then) q ≡ get (overlay_in s) q
        stands_same q =
            sym (ap (λ r. get (overlay_in (next s (Answers t Back r))) q) (ap went_back empty_saved))
            ∙ o.goes_back t none q ∙ ap (λ (l : List PlainMap). cond (owns_in s t q)
            (get (draft_back l (view s t)).map q) (get (overlay_in s) q)) empty_saved
            ∙ ⊎_elim
            (λ yes. cond-true (owns_in s t q) (get (view s t).map q) (get (overlay_in s) q) yes ∙
            sym ((w.stands t back_on).at q (owns_holds (locks_in s.active t) q yes)))
            (λ not. cond-false (owns_in s t q) (get (view s t).map q) (get (overlay_in s) q) not)
            (cases_Bool (owns_in s t q))

        by_stay : (u : ℕ) → is_open then.active u ≡ true → (c : Bool) → (t == u) ≡ c →
            Each es (notes u) (locks_in then.active u) s.committed (marks u) (view then u)
        by_stay u hu true e = subst (λ x. Each es (notes x) (locks_in then.active x) s.committed (marks x)
            (view then x)) (eqb-true t u e)
            (itself t Back none NoMark es (notes t) (marks t) (view s t).saved
            (sym (ap (λ (l : List PlainMap). (draft_back l (view s t)).saved) empty_saved ∙ refl))
            (at.undoes t back_on))
        by_stay u hu false e = other t Back none NoMark es one u (λ k. eqb-false t u e (sym k)) hu
            (λ was. leaves_itself u)

  -- ---- transactions begin and end

  begun_law : (t : ℕ) → is_open s.active t ≡ false → Represents (next s (Begins t)) es (λ u. cond (t == u) [] (notes u))
      (λ u. cond (t == u) [] (marks u))
  begun_law t closed = record {
    has = record { rising = rising; one_place = one; same = at.has.same ∙ sym same_overlay };
    undoes = λ u on. by_begin u on (t == u) refl;
  }
    where
      then : State
      then = next s (Begins t)

      same_overlay : overlay_in then ≡ overlay_in s
      same_overlay =
          ap (λ bodies. left_by_bodies bodies s.committed)
          (map-append (λ (x : Transaction). x.1) s.active ((t, []) ∷ []))
          ∙ left_by_none (map (λ (x : Transaction). x.1) s.active) s.committed

      own : Each es [] (locks_in then.active t) s.committed [] (view then t)
      own = let x = st.begins t closed in
          subst (λ (d : Draft). Each es [] (locks_in then.active t) s.committed [] d) (sym x.view)
          (subst (λ (ls : List Lock). Each es [] ls s.committed [] (fresh s.committed)) (sym x.locks)
          (nothing_undone es (λ q. get s.committed q)))

      by_begin : (u : ℕ) → is_open then.active u ≡ true → (b : Bool) → (t == u) ≡ b →
          Each es (cond b [] (notes u)) (locks_in then.active u) s.committed (cond b [] (marks u)) (view then u)
      by_begin u hu true e = subst (λ x. Each es [] (locks_in then.active x) s.committed [] (view then x))
          (eqb-true t u e) own
      by_begin u hu false e =
          let x = st.begins_others t u (λ k. eqb-false t u e (sym k)) in
          subst (λ (d : Draft). Each es (notes u) (locks_in then.active u) s.committed (marks u) d) (sym x.view)
          (subst (λ (ls : List Lock). Each es (notes u) ls s.committed (marks u) (view s u)) (sym x.keeps.locks)
          (at.undoes u (sym x.keeps.is_active ∙ hu)))

  committed_law : (t : ℕ) → is_open s.active t ≡ true → Represents (next s (Commits t)) es notes marks
  committed_law t on = record {
    has = record { rising = rising; one_place = one; same = at.has.same ∙ sym (o.commits t on) };
    undoes = λ u hu. by_commit u hu (λ e. true≢false (sym (ap (is_open then.active) (sym e) ∙ hu) ∙ st.commits t));
  }
    where
      then : State
      then = next s (Commits t)

      by_commit : (u : ℕ) → is_open then.active u ≡ true → u ≢ t → Each es (notes u) (locks_in then.active u)
          then.committed (marks u) (view then u)
      by_commit u hu n =
          let x = st.commits_others t u n in
          let was : is_open s.active u ≡ true = sym x.is_active ∙ hu in
          subst (λ (ls : List Lock). Each es (notes u) ls then.committed (marks u) (view then u)) (sym x.locks)
          ((laws u was).others es then.committed (view then u).saved one (leaves_itself u) (
            λ q h. (w.framed t q on (apart t u on was n q h)).map,
            same_pairs (holds_in s u) (owns_in s u) (λ q h. owns_holds (locks_in s.active u) q h) (view s u).saved
                (view then u).saved (w.rebased u t was on n).saved,
          ))

  aborted_law : (t : ℕ) (es' : List Entry) → is_open s.active t ≡ true → TakesBack (notes t) es es' →
      Represents (next s (Aborts t)) es' notes marks
  aborted_law t es' on b = record {
    has = restored_has t on (notes t) s.committed (laws t on).whole es' b then (o.aborts t on);
    undoes = λ u hu. by_abort u hu (λ e. true≢false (sym (ap (is_open then.active) (sym e) ∙ hu) ∙ st.aborts t));
  }
    where
      then : State
      then = next s (Aborts t)

      by_abort : (u : ℕ) → is_open then.active u ≡ true → u ≢ t → Each es' (notes u) (locks_in then.active u)
          s.committed (marks u) (view then u)
      by_abort u hu n =
          let x = st.aborts_others t u n in
          let was : is_open s.active u ≡ true = sym x.keeps.is_active ∙ hu in
          subst (λ (d : Draft). Each es' (notes u) (locks_in then.active u) s.committed (marks u) d) (sym x.view)
          (subst (λ (ls : List Lock). Each es' (notes u) ls s.committed (marks u) (view s u)) (sym x.keeps.locks)
          (others u was es' ((its t on (notes t) s.committed (laws t on).whole es' b).one_place)
          (leaves t on (notes t) s.committed (laws t on).whole es' b u was n)))

  maintained_law : (es' : List Entry) → HasContent es' (content es) →
      ((t : ℕ) (q : OrderedKey) → is_open s.active t ≡ true → owns_in s t q ≡ true → (p : ℕ) →
      find es' p q ≡ find es p q) →
      ((t : ℕ) → is_open s.active t ≡ true → KeepsRuns es es' (notes t)) → Represents s es' notes marks
  maintained_law es' has only keeps = record {
    has = record { rising = has.rising; one_place = has.one_place; same = has.same ∙ at.has.same };
    undoes = λ t on. others t on es' has.one_place (record {
      same = λ q h p. only t q on h p;
      runs = λ p q run gone. keeps t on p q run gone;
    });
  }

  pub goes_on : RepresentsNext s es notes marks
  goes_on = record {
    answered = answered_law;
    made = made_law;
    done = done_law;
    marked = marked_law;
    backed = λ t es' none some b. backed_law t none es' some b;
    stayed = λ t none no. stayed_law t none no;
    begun = begun_law;
    committed = committed_law;
    aborted = aborted_law;
    maintained = maintained_law;
  }

pub opened : (marks : ℕ → List ℕ) → HasContent [] (overlay_in start) → Represents start [] (λ t. []) marks
opened marks has = record { has = has; undoes = λ t on. absurd (false≢true on) }
