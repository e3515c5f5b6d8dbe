-- A step that is right of what the store keeps is right at its trace.
use Rattle.std.proofs.Common.{◌≡◌, ◌≤◌, ◌<◌, ◌+◌, ℕ, List, [], ◌∷◌, ◌++◌, length, map, Bool, true, false, cond, ◌≢◌}
use Rattle.std.proofs.Common.{◌&&◌, refl, sym, ap, ◌∙◌, subst, ⊎_elim, inl, inr, ◌⊎◌, Option, Some, None, arith}
use Rattle.std.specs.Prelude.{◌==◌, ◌||◌, not, nat_le, MatchOption}
use Rattle.std.specs.FinMap.{get, contains_key}
use Rattle.std.proofs.lemmas.Bool.{cond-true, cond-false, both_ways, eq-eqb, ne_eqb, false≢true, and_from, leb-true}
use Rattle.std.proofs.lemmas.Bool.{le-leb}
use Rattle.std.proofs.lemmas.List.{map-append, length-map}
use Rattle.std.proofs.lemmas.Simd.{map-map}
use Rattle.am_record.specs.ByNumber.{of_number, with_changed}
use Rattle.am_record.proofs.Lists.{AllByRecursion-always}
use Rattle.am_record.proofs.ByNumber.{has_number-map, of_number-map, of_number-told, of_number-known, map-there}
use Rattle.am_record.proofs.ByNumber.{with_changed-map, without_number-map}
use Rattle.am_record.proofs.Owners.{blocker_among-map, holder_among-map}
use Rattle.am_law_effect.proofs.Backs.{describe_laws}
use Rattle.am_law_effect.proofs.Marks.{back_laws, whole_describes}
use Rattle.am_law_effect.specs.History.{aborted, gone_back}
use Rattle.am_law_effect.specs.Operations.{goes_back, changed, marks_left, noted, notes_left, wished}
use Rattle.am_law_effect.specs.Laws.{taken_back}
use Rattle.am_law_effect.specs.MergeAnswers.{CleanRight, Holders, MergeRight, all_worked_off, cleaned_by}
use Rattle.am_law_effect.specs.Store.{IsRunOf, MayReply, Store, WithinLimit, after_all, after_step, holder}
use Rattle.am_law_effect.specs.Store.{marks_after, notes_after, opened, with_wish}
use Rattle.am_law_sound.proofs.RepresentsLaws.{goes_on}
use Rattle.am_law_sound.specs.Represents.{RepresentsNext, stored_answer}
use Rattle.am_index.specs.Content.{content}
use Rattle.am_index.specs.Entries.{find}
use Rattle.am_index_parts.specs.Catalogs.{runs_in}
use Rattle.am_index_parts.proofs.OpenRuns.{few_runs}
use Rattle.am_index.proofs.RunLaws.{run_laws}
use Rattle.am_record.specs.Asks.{lock_of, locks_of}
use Rattle.am_record.specs.Interval.{Interval}
use Rattle.am_record.specs.OrderedKey.{OrderedKey}
use Rattle.am_record.specs.Plain.{PlainMap, answer, is_orderly, found, exists_or_done, least_taken}
use Rattle.am_record.specs.declared.lock.Lock.{Lock as TheLock}
use Rattle.am_record.specs.declared.entry.Entry.{Entry}
use Rattle.am_record.specs.declared.step.Op.{Op}
use Rattle.am_record.specs.declared.step.Op.TheVariants.{Back, Delete, DeleteRange, Get, Insert, Load, Put, Replace}
use Rattle.am_record.specs.declared.step.Op.TheVariants.{Set}
use Rattle.am_record.specs.declared.step.Refusal.{Refusal}
use Rattle.am_record.specs.declared.step.Refusal.TheVariants.{BadLimit, NoMemory, NoSuchTx, NotRising, TooManyOps}
use Rattle.am_record.specs.declared.step.Refusal.TheVariants.{TooManyRuns, TooManyTx}
use Rattle.am_record.specs.declared.step.Reply.{Reply}
use Rattle.am_record.specs.declared.step.Reply.TheVariants.{Aborted, Begun, Committed, Deleted, Done, Exists, Missing}
use Rattle.am_record.specs.declared.step.Reply.TheVariants.{NoMark}
use Rattle.am_record.specs.declared.step.Reply.TheVariants.{Refused}
use Rattle.am_record.specs.declared.step.Step.{Step}
use Rattle.am_record.specs.declared.step.Step.TheVariants.{Abort, Begin, Clean, Commit, Do, Merge}
use Rattle.am_law_serial.proofs.Bodies.{locks_of-push}
use Rattle.am_law_serial.proofs.OneStep.{step_laws}
use Rattle.am_law_serial.proofs.States.{overlay_laws, view_laws}
use Rattle.am_law_serial.specs.Laws.{OverlayLaws, ViewLaws}
use Rattle.am_record.specs.Refusals.{lock_refusal, is_bounded, may_make_run, is_one_too_many, or_else}
use Rattle.am_record.specs.Refusals.{refusal_before_lock}
use Rattle.am_law_serial.specs.Machine.{State, Transaction, blocker, body_in, due, extended, is_open, locks_in, owns_in}
use Rattle.am_law_serial.specs.Machine.{is_full, says_full, view, without_transaction}
use Rattle.am_law_serial.proofs.Runs.{none_without}
use Rattle.am_record.specs.Events.{Event}
use Rattle.am_law_serial.specs.Trace.{Answered, Trace, ops_of, runs_made}
use Rattle.am_law_sound.proofs.KeptEntries.{not_begun}
use Rattle.am_law_sound.proofs.Whole.{Right, changed_refused, either_way, marks_left_refused, noted_refused}
use Rattle.am_law_sound.proofs.Whole.{notes_left_refused, right_at}
use Rattle.am_law_sound.specs.StateOf.{IsStateOf, active_of, state_of}
use Rattle.am_law_sound.specs.StoreState.{Active, IsFit, MayAnswer, StoreState, state_after, taken_back_to_mark}
use Rattle.am_law_sound.specs.StoreState.{blocker_in}
use Rattle.am_law_sound.specs.StoreState.{newcomer, with_op, has_all_runs, refusal_in, without_tx, holder_in, in_table}
use Rattle.am_law_sound.specs.StoreState.{is_in}
use Rattle.am_law_sound.specs.StoreState.{takes_memory}
use Rattle.am_store_undo.proofs.NotesSinceMarks.{mark_laws}
use Rattle.am_record.specs.Marks.{since_mark, has_mark}
use Rattle.am_store_undo.specs.Marks.{MarkLaws}
use Rattle.am_store_undo.specs.Notes.{CanTakeBack}
use Rattle.am_store_undo.specs.declared.note.Note.{Note}

-- ---- the table of active transactions

abbrev number : Transaction → ℕ
number x = x.0

abbrev number_of : Active → ℕ
number_of x = x.number

module _ (notes : ℕ → List Note) (marks : ℕ → List ℕ) where
  is_in-map : (txs : List Transaction) (t : ℕ) → is_in (map (active_of notes marks) txs) t ≡ is_open txs t
  is_in-map = has_number-map number number_of (active_of notes marks) (λ x. refl)

  of_body : {A : Type 0} (told : Active → A) (of : List Answered → A) → told (newcomer 0) ≡ of [] →
      ((x : Transaction) → told (active_of notes marks x) ≡ of x.1) → (txs : List Transaction) (t : ℕ) →
      told (in_table (map (active_of notes marks) txs) t) ≡ of (body_in txs t)
  of_body told of none says txs t =
      of_number-told number_of (λ x. x) (newcomer 0) told (map (active_of notes marks) txs) t
      ∙ of_number-map number number_of (active_of notes marks) (λ x. refl) (λ x. of x.1) told (told (newcomer 0)) says
      txs
      t
      ∙ ap (λ a. of_number number (λ x. of x.1) a txs t) none
      ∙ sym (of_number-told number (λ x. x.1) [] of txs t)

  ops-map : (txs : List Transaction) (t : ℕ) → (in_table (map (active_of notes marks) txs) t).ops ≡ length
      (body_in txs t)
  ops-map = of_body (λ x. x.ops) length refl (λ x. refl)

  locks-map : (txs : List Transaction) (t : ℕ) → (in_table (map (active_of notes marks) txs) t).locks ≡ locks_in txs t
  locks-map = of_body (λ x. x.locks) (λ done. locks_of (ops_of done)) refl (λ x. refl)

  by_number : {A : Type 0} (told : Active → A) (of : ℕ → A) →
      ((x : Transaction) → told (active_of notes marks x) ≡ of x.0) → (txs : List Transaction) (t : ℕ) →
      is_open txs t ≡ true → told (in_table (map (active_of notes marks) txs) t) ≡ of t
  by_number told of says txs t on =
      of_number-told number_of (λ x. x) (newcomer 0) told (map (active_of notes marks) txs) t
      ∙ of_number-map number number_of (active_of notes marks) (λ x. refl) (λ x. of x.0) told (told (newcomer 0)) says
      txs
      t
      ∙ of_number-known number (λ x. of x.0) (told (newcomer 0)) (λ a. a ≡ of t) t (λ x e. ap of e) txs on

  notes-map : (txs : List Transaction) (t : ℕ) → is_open txs t ≡ true →
      (in_table (map (active_of notes marks) txs) t).notes ≡ notes t
  notes-map = by_number (λ x. x.notes) notes (λ x. refl)

  marks-map : (txs : List Transaction) (t : ℕ) → is_open txs t ≡ true →
      (in_table (map (active_of notes marks) txs) t).marks ≡ marks t
  marks-map = by_number (λ x. x.marks) marks (λ x. refl)

  holder-map : (txs : List Transaction) (q : OrderedKey) → holder_in (map (active_of notes marks) txs) q ≡ holder txs q
  holder-map = holder_among-map number number_of (λ x. locks_of (ops_of x.1)) (λ x. x.locks) (active_of notes marks)
      (λ x. refl) (λ x. refl)

  blocker-map : (txs : List Transaction) (t : ℕ) (asked : Option TheLock) → blocker_in (map (active_of notes marks) txs)
      t asked ≡ blocker txs t asked
  blocker-map = blocker_among-map number number_of (λ x. locks_of (ops_of x.1)) (λ x. x.locks) (active_of notes marks)
      (λ x. refl) (λ x. refl)

  ended-map : (t : ℕ) (txs : List Transaction) → map (active_of notes marks) (without_transaction t txs) ≡ without_tx t
      (map (active_of notes marks) txs)
  ended-map t txs = sym (without_number-map number number_of (active_of notes marks) (λ x. refl) t txs)

other_notes : (n n' : ℕ → List Note) (m m' : ℕ → List ℕ) (txs : List Transaction) →
    ((u : ℕ) → is_open txs u ≡ true → (n' u ≡ n u) × (m' u ≡ m u)) → map (active_of n' m') txs ≡ map (active_of n m) txs
other_notes n n' m m' txs h = map-there number (active_of n' m') (active_of n m) txs (λ x on i. record {
  number = x.0;
  ops = length x.1;
  locks = locks_of (ops_of x.1);
  notes = (h x.0 on).0 i;
  marks = (h x.0 on).1 i;
})

-- one more operation
length-push : (xs : List Answered) (x : Answered) → length (xs ++ x ∷ []) ≡ length xs + 1
length-push [] x = refl
length-push (y ∷ ys) x = let ih = length-push ys x in omega arith

-- the notes and marks after an operation of t
abbrev notes_then : ℕ → Op → Reply → List Note → (ℕ → List Note) → (ℕ → List ℕ) → ℕ → List Note
notes_then t op reply new notes marks u = cond (t == u) (new ++ notes_left op reply (marks u) (notes u)) (notes u)

abbrev marks_then : ℕ → Op → Reply → (ℕ → List Note) → (ℕ → List ℕ) → ℕ → List ℕ
marks_then t op reply notes marks u = cond (t == u) (marks_left op reply (length (notes u)) (marks u)) (marks u)

module _ (t : ℕ) (op : Op) (reply : Reply) (new : List Note) (notes : ℕ → List Note) (marks : ℕ → List ℕ) where
  abbrev then : Transaction → Active
  then = active_of (notes_then t op reply new notes marks) (marks_then t op reply notes marks)

  did : (x : Transaction) → x.0 ≡ t → with_op op reply new (active_of notes marks x) ≡ then
      (cond (x.0 == t) (extended (op, reply) x) x)
  did x e =
      let on = eq-eqb x.0 t e in
      let own = eq-eqb t x.0 (sym e) in
      let long = length-push x.1 (op, reply) in
      let locks = ap locks_of (map-append (λ (a : Answered). a.0) x.1 ((op, reply) ∷ [])) ∙
      locks_of-push (ops_of x.1) op in
      sym ((λ i. then (cond (on i) (extended (op, reply) x) x)) ∙ (λ i. record {
        number = x.0;
        ops = long i;
        locks = locks i;
        notes = cond (own i) (new ++ notes_left op reply (marks x.0) (notes x.0)) (notes x.0);
        marks = cond (own i) (marks_left op reply (length (notes x.0)) (marks x.0)) (marks x.0);
      }))

  stayed : (x : Transaction) → x.0 ≢ t → active_of notes marks x ≡ then (cond (x.0 == t) (extended (op, reply) x) x)
  stayed x d =
      let off = ne_eqb x.0 t d in
      let other = ne_eqb t x.0 (λ e. d (sym e)) in
      sym ((λ i. then (cond (off i) (extended (op, reply) x) x)) ∙ (λ i. record {
        number = x.0;
        ops = length x.1;
        locks = locks_of (ops_of x.1);
        notes = cond (other i) (new ++ notes_left op reply (marks x.0) (notes x.0)) (notes x.0);
        marks = cond (other i) (marks_left op reply (length (notes x.0)) (marks x.0)) (marks x.0);
      }))

  did_all : (txs : List Transaction) → map then (with_changed number (extended (op, reply)) t txs) ≡ with_changed
      number_of (with_op op reply new) t (map (active_of notes marks) txs)
  did_all txs =
      map-map then (λ x. cond (x.0 == t) (extended (op, reply) x) x) txs
      ∙ sym (with_changed-map number_of (with_op op reply new) (active_of notes marks)
      (λ x. then (cond (x.0 == t) (extended (op, reply) x) x)) t txs
      (AllByRecursion-always (λ x. x.0 ≡ t → with_op op reply new (active_of notes marks x) ≡ then
      (cond (x.0 == t) (extended (op, reply) x) x)) did txs) stayed)

-- what Back leaves counts at Back alone
changed_alike : (gone gone' : List Entry) (runs : ℕ) (op : Op) (reply : Reply) (es : List Entry) →
    (goes_back op reply ≡ true → gone ≡ gone') → changed gone runs op reply es ≡ changed gone' runs op reply es
changed_alike gone gone' runs Back Done es h = h refl
changed_alike gone gone' runs (Insert k v) Done es h = refl
changed_alike gone gone' runs (Replace k v) Done es h = refl
changed_alike gone gone' runs (Set k v) Done es h = refl
changed_alike gone gone' runs (Delete k) Done es h = refl
changed_alike gone gone' runs (DeleteRange range max) (Deleted n) es h = refl
changed_alike gone gone' runs (Load records) Done es h = refl
changed_alike gone gone' runs (Put records) Done es h = refl
changed_alike gone gone' runs op reply es h = refl

wished_refused : (op : Op) (why : Refusal) → wished op (Refused why) ≡ None
wished_refused (Get k) why = refl
wished_refused op why = refl

-- ---- whether a further run may be made

-- an answer doesn't say that none may be
says_answer : (op : Op) (marks : List ℕ) (m : PlainMap) → says_full (stored_answer op marks m) ≡ false
says_answer (Get k) marks m = at (get m k)
  where
    at : (o : Option (List ℕ)) → says_full (found o) ≡ false
    at None = refl
    at (Some v) = refl
says_answer (Insert k v) marks m = elim (contains_key m k) as (λ b. says_full (cond b (Exists k) Done) ≡ false)
    [ true ↦ refl | false ↦ refl ]
says_answer (Replace k v) marks m = elim (contains_key m k) as (λ b. says_full (cond b Done Missing) ≡ false)
    [ true ↦ refl | false ↦ refl ]
says_answer (Delete k) marks m = elim (contains_key m k) as (λ b. says_full (cond b Done Missing) ≡ false)
    [ true ↦ refl | false ↦ refl ]
says_answer (Load records) marks m = at (least_taken records m)
  where
    at : (o : Option OrderedKey) → says_full (exists_or_done o) ≡ false
    at None = refl
    at (Some k) = refl
says_answer Back marks m = elim (has_mark marks) as (λ b. says_full (cond b Done NoMark) ≡ false)
    [ true ↦ refl | false ↦ refl ]
says_answer op marks m = refl

-- the refusals in their order
abbrev InOrder : Bool → Bool → Bool → Bool → Bool → Bool → Option ℕ → Bool → Option Refusal
InOrder a b c d load full blocked many = or_else
    (cond a (Some NoSuchTx) (cond b (Some TooManyOps) (cond c (Some NotRising) (cond d (Some BadLimit)
    (cond (load && full) (Some TooManyRuns) None))))) (lock_refusal blocked many)

-- the reply is the refusal, and where there is none it doesn't say that no further run may be made
abbrev Tells : Reply → Option Refusal → Type 0
Tells reply due = MatchOption due (says_full reply ≡ false) (λ why. reply ≡ Refused why)

module _ (reply : Reply) (k : Bool) (blocked : Option ℕ) (many : Bool) where
  tells_not : (blocked : Option ℕ) (many : Bool) → Tells reply (lock_refusal blocked many) → says_full reply ≡ false
  tells_not (Some h) many m = ap says_full m
  tells_not None true m = ap says_full m
  tells_not None false m = m

  -- the reply tells whether as many runs have entries as may have
  full_alike : (a b c d load made left : Bool) → (left ≡ true → k ≡ true) →
      Tells reply (InOrder a b c d load (made || left) blocked many) →
      InOrder a b c d load (made || (k && says_full reply)) blocked many ≡
      InOrder a b c d load (made || left) blocked many
  full_alike true b c d load made left most m = refl
  full_alike false true c d load made left most m = refl
  full_alike false false true d load made left most m = refl
  full_alike false false false true load made left most m = refl
  full_alike false false false false false made left most m = refl
  full_alike false false false false true true left most m = refl
  full_alike false false false false true false true most m =
      ap (λ f. or_else (cond f (Some TooManyRuns) None) (lock_refusal blocked many))
      (and_from k (says_full reply) (most refl) (ap says_full m))
  full_alike false false false false true false false most m =
      ap (λ f. or_else (cond f (Some TooManyRuns) None) (lock_refusal blocked many))
      (neither k (says_full reply) (tells_not blocked many m))
    where
      neither : (b c : Bool) → c ≡ false → (b && c) ≡ false
      neither true c h = h
      neither false c h = refl

-- ---- the store at a trace

module _ (most_runs : ℕ) (trace : Trace) (s : Store) (r : Right most_runs trace s) where
  o : OverlayLaws s.state
  o = subst (λ (st : State). OverlayLaws st) (sym r.is) (overlay_laws most_runs trace r.runs)

  w : ViewLaws s.state
  w = subst (λ (st : State). ViewLaws st) (sym r.is) (view_laws most_runs trace r.runs)

  go : RepresentsNext s.state s.entries s.notes s.marks
  go = goes_on s.state o w (step_laws s.state) s.entries s.notes s.marks r.at

  abbrev full : Bool
  full = has_all_runs (state_of most_runs s)

  due_is : (t : ℕ) (op : Op) → refusal_in (state_of most_runs s) t op ≡ due full s.state t op
  due_is t op =
      let a = is_in-map s.notes s.marks s.state.active t in
      let b = ops-map s.notes s.marks s.state.active t in
      let c = blocker-map s.notes s.marks s.state.active t (lock_of op) in
      let d = locks-map s.notes s.marks s.state.active t in
      λ i. or_else (refusal_before_lock (a i) (b i) full op) (lock_refusal (c i) (is_one_too_many (d i) (lock_of op)))

  -- 65,535 runs were made where so many have entries
  as_many_made : nat_le 65535 (runs_in s.entries) ≡ true → nat_le 65535 s.state.runs ≡ true
  as_many_made h = le-leb 65535 s.state.runs (omega (
    arith,
    leb-true 65535 (runs_in s.entries) h,
    few_runs s.state.runs s.entries ((run_laws s.entries r.at.has.rising).nothing_above s.state.runs r.keeps.below),
  ))

  holders_are : holder_in (map (active_of s.notes s.marks) s.state.active) ≡ holder s.state.active
  holders_are i q = holder-map s.notes s.marks s.state.active q i

  marks_are : (t : ℕ) → is_open s.state.active t ≡ true →
      (in_table (map (active_of s.notes s.marks) s.state.active) t).marks ≡ s.marks t
  marks_are t o = marks-map s.notes s.marks s.state.active t o

  -- who asks is active where no refusal is due
  is_active : (t : ℕ) (op : Op) → due false s.state t op ≡ None → is_open s.state.active t ≡ true
  is_active t op e = ((step_laws s.state).granted t op e).is_active

  abbrev Given : ℕ → Op → Reply → Option Refusal → Type 0
  Given t op reply o = MatchOption o ((reply ≡ stored_answer op
      (in_table (map (active_of s.notes s.marks) s.state.active) t).marks (content s.entries)) ⊎
      ((reply ≡ Refused NoMemory) × (takes_memory op ≡ true))) (λ why. reply ≡ Refused why)

  tells : (t : ℕ) (op : Op) (reply : Reply) (o : Option Refusal) → Given t op reply o → Tells reply o
  tells t op reply None m = ⊎_elim
      (λ a. ap says_full a ∙
      says_answer op (in_table (map (active_of s.notes s.marks) s.state.active) t).marks (content s.entries))
      (λ w. ap says_full w.0) m
  tells t op reply (Some why) m = m

  -- the refusal that the machine owes where this was replied is the one that the store owes
  owed : (t : ℕ) (op : Op) (reply : Reply) → Given t op reply (due full s.state t op) →
      due (is_full most_runs s.state.runs reply) s.state t op ≡ due full s.state t op
  owed t op reply m = full_alike reply (nat_le 65535 s.state.runs) (blocker s.state.active t (lock_of op))
      (is_one_too_many (locks_in s.state.active t) (lock_of op)) (not (is_open s.state.active t))
      (nat_le 4096 (length (body_in s.state.active t))) (not (is_orderly op)) (not (is_bounded op)) (may_make_run op)
      (nat_le most_runs s.state.runs) (nat_le 65535 (runs_in s.entries)) as_many_made
      (tells t op reply (due full s.state t op) m)

  may_do : (t : ℕ) (op : Op) (reply : Reply) → MayAnswer (state_of most_runs s) (Do t op) reply →
      MayReply most_runs s (Do t op) reply
  may_do t op reply h =
      let given = subst (Given t op reply) (due_is t op) h in
      by_due (is_full most_runs s.state.runs reply) (due (is_full most_runs s.state.runs reply) s.state t op) refl
      (subst (Given t op reply) (sym (owed t op reply given)) given)
    where
      by_due : (now : Bool) (o : Option Refusal) → due now s.state t op ≡ o → Given t op reply o →
          MatchOption (due now s.state t op) ((reply ≡ answer op (view s.state t)) ⊎ (reply ≡ Refused NoMemory))
          (λ why. reply ≡ Refused why)
      by_due now None e m = subst
          (λ o. MatchOption o ((reply ≡ answer op (view s.state t)) ⊎ (reply ≡ Refused NoMemory))
          (λ why. reply ≡ Refused why)) (sym e)
          (⊎_elim (λ a. inl (a ∙ ap (λ (ms : List ℕ). stored_answer op ms (content s.entries))
          (marks_are t (is_active t op (none_without now s.state t op e))) ∙
          sym (go.answered t op (none_without now s.state t op e)))) (λ w. inr w.0) m)
      by_due now (Some why) e m = subst (λ o. MatchOption o ((reply ≡ answer op (view s.state t)) ⊎
          (reply ≡ Refused NoMemory)) (λ why. reply ≡ Refused why)) (sym e) m

  -- Back is answered Done where a mark stands
  mark_stands : (t : ℕ) → MayReply most_runs s (Do t Back) Done → (is_open s.state.active t ≡ true) ×
      (has_mark (s.marks t) ≡ true)
  mark_stands t h = by_due (is_full most_runs s.state.runs Done)
      (due (is_full most_runs s.state.runs Done) s.state t Back) refl h
    where
      not_refused : (why : Refusal) → ◌≡◌ {A = Reply} Done (Refused why) → ⊥
      not_refused why e = cc

      stands : (b : Bool) → Done ≡ cond b Done NoMark → b ≡ true
      stands true e = refl
      stands false e = cc

      by_due : (now : Bool) (o : Option Refusal) → due now s.state t Back ≡ o →
          MatchOption o ((Done ≡ answer Back (view s.state t)) ⊎ (Done ≡ Refused NoMemory))
          (λ why. Done ≡ Refused why) →
          (is_open s.state.active t ≡ true) × (has_mark (s.marks t) ≡ true)
      by_due now None e m = (
        is_active t Back (none_without now s.state t Back e),
        ⊎_elim (λ a. stands (has_mark (s.marks t)) (a ∙ go.answered t Back (none_without now s.state t Back e)))
            (λ w. absurd (not_refused NoMemory w)) m,
      )
      by_due now (Some why) e m = absurd (not_refused why m)

  same_open : (t : ℕ) → is_in (map (active_of s.notes s.marks) s.state.active) t ≡ is_open s.state.active t
  same_open t = is_in-map s.notes s.marks s.state.active t

  long : length (map (active_of s.notes s.marks) s.state.active) ≡ length s.state.active
  long = length-map s.state.active (active_of s.notes s.marks)

  pub may_reply : (step : Step) (reply : Reply) → MayAnswer (state_of most_runs s) step reply →
      MayReply most_runs s step reply
  may_reply Begin (Begun t) h = (h.0, subst (λ n. n < 64) long h.1, h.2)
  may_reply Begin (Refused TooManyTx) h = ⊎_elim (λ a. inl (subst (λ n. 64 ≤ n) long a)) (λ b. inr b) h
  may_reply (Do t op) reply h = may_do t op reply h
  may_reply (Commit t) (Committed c) h = (sym (same_open t) ∙ h.0, h.1)
  may_reply (Commit t) (Refused NoSuchTx) h = sym (same_open t) ∙ h
  may_reply (Abort t) Aborted h = sym (same_open t) ∙ h
  may_reply (Abort t) (Refused NoSuchTx) h = sym (same_open t) ∙ h
  may_reply (Merge limit) reply h = subst (λ hs. WithinLimit limit reply (MergeRight s.entries s.wishes hs limit reply))
      holders_are h
  may_reply (Clean range limit) reply h = subst
      (λ hs. WithinLimit limit reply (CleanRight s.entries hs range limit reply)) holders_are h
  may_reply step reply h = absurd h

  -- what the step leaves
  unborn : (t : ℕ) → t ≡ s.state.begun + 1 → is_open s.state.active t ≡ false
  unborn t e = not_begun s.state w (step_laws s.state) s.entries s.past s.notes s.marks r.keeps t e

  begun_parts : (t : ℕ) → t ≡ s.state.begun + 1 → state_of most_runs (after_step s Begin (Begun t)) ≡ state_after
      (state_of most_runs s)
      Begin (Begun t)
  begun_parts t e =
      let notes' = λ (u : ℕ). cond (t == u) [] (s.notes u) in
      let marks' = λ (u : ℕ). cond (t == u) [] (s.marks u) in
      let apart : (u : ℕ) → is_open s.state.active u ≡ true → (t == u) ≡ false =
      λ u o. ne_eqb t u (λ same. both_ways _ (unborn t e) (ap (is_open s.state.active) same ∙ o)) in
      let own_notes = cond-true (t == t) [] (s.notes t) (eq-eqb t t refl) in
      let own_marks = cond-true (t == t) [] (s.marks t) (eq-eqb t t refl) in
      let table : map (active_of notes' marks') (s.state.active ++ (t, []) ∷ []) ≡ map (active_of s.notes s.marks)
      s.state.active ++ record { number = t; ops = 0; locks = []; notes = []; marks = [] } ∷ [] =
      map-append (active_of notes' marks') s.state.active ((t, []) ∷ [])
      ∙ ap (λ l. l ++ active_of notes' marks' (t, []) ∷ [])
      (other_notes s.notes notes' s.marks marks' s.state.active
      (λ u o. (cond-false (t == u) [] (s.notes u) (apart u o), cond-false (t == u) [] (s.marks u) (apart u o))))
      ∙ (λ i. map (active_of s.notes s.marks) s.state.active ++ record {
        number = t;
        ops = 0;
        locks = [];
        notes = own_notes i;
        marks = own_marks i;
      } ∷ []) in
      λ i. record {
        most_runs = most_runs;
        entries = s.entries;
        wishes = s.wishes;
        begun = s.state.begun + 1;
        commits = s.state.commits;
        runs = s.state.runs;
        active = table i;
      }

  -- going back is taking back what was noted since the mark
  backed_is : (t : ℕ) → MayReply most_runs s (Do t Back) Done → gone_back t s.past s.entries ≡ taken_back_to_mark
      (state_of most_runs s) t
  backed_is t h =
      let stands = mark_stands t h in
      (back_laws t s.past s.entries (s.notes t) (s.marks t) (r.keeps.describes t stands.0) stands.1).backed
      r.at.has.rising
      ∙ (λ i. taken_back (since_mark (sym (marks-map s.notes s.marks s.state.active t stands.0) i)
      (sym (notes-map s.notes s.marks s.state.active t stands.0) i)) s.entries)

  back_counts : (t : ℕ) (op : Op) (reply : Reply) → MayReply most_runs s (Do t op) reply → goes_back op reply ≡ true →
      gone_back t s.past s.entries ≡ taken_back_to_mark (state_of most_runs s) t
  back_counts t Back Done h e = backed_is t h
  back_counts t op reply h e = absurd (false≢true e)

  -- the operation makes as many runs on the content as on what its transaction sees
  made_alike : (t : ℕ) (op : Op) (reply : Reply) → MayReply most_runs s (Do t op) reply →
      runs_made (view s.state t).map op reply ≡ runs_made (content s.entries) op reply
  made_alike t op reply h = by_due (is_full most_runs s.state.runs reply)
      (due (is_full most_runs s.state.runs reply) s.state t op) refl h
    where
      of_refused : (m : PlainMap) (op : Op) (why : Refusal) → runs_made m op (Refused why) ≡ 0
      of_refused m (Load records) why = refl
      of_refused m (Put records) why = refl
      of_refused m op why = refl

      by_due : (now : Bool) (o : Option Refusal) → due now s.state t op ≡ o →
          MatchOption o ((reply ≡ answer op (view s.state t)) ⊎ (reply ≡ Refused NoMemory))
          (λ why. reply ≡ Refused why) →
          runs_made (view s.state t).map op reply ≡ runs_made (content s.entries) op reply
      by_due now None e m = go.made t op (none_without now s.state t op e) reply
      by_due now (Some why) e m =
          ap (runs_made (view s.state t).map op) m ∙ of_refused (view s.state t).map op why
          ∙ sym (ap (runs_made (content s.entries) op) m ∙ of_refused (content s.entries) op why)

  do_parts : (t : ℕ) (op : Op) (reply : Reply) → MayReply most_runs s (Do t op) reply →
      state_of most_runs (after_step s (Do t op) reply) ≡
      state_after (state_of most_runs s) (Do t op) reply
  do_parts t op (Refused why) h =
      let es = changed_refused (gone_back t s.past s.entries) s.state.runs op why s.entries in
      let ws : with_wish s.wishes (wished op (Refused why)) ≡ s.wishes =
      ap (with_wish s.wishes) (wished_refused op why) in
      let table = other_notes s.notes (notes_after s (Do t op) (Refused why)) s.marks
      (marks_after s (Do t op) (Refused why)) s.state.active (λ u o. (
        ap (λ (ns : List Note). cond (t == u) (ns ++ notes_left op (Refused why) (s.marks u) (s.notes u)) (s.notes u))
            (noted_refused s.state.runs op why s.entries)
            ∙ ap (λ (ns : List Note). cond (t == u) ns (s.notes u))
            (notes_left_refused op why (s.marks u) (s.notes u)) ∙ either_way (t == u) (s.notes u),
        ap (λ ms. cond (t == u) ms (s.marks u)) (marks_left_refused op why (length (s.notes u)) (s.marks u)) ∙
            either_way (t == u) (s.marks u),
      )) in
      λ i. record {
        most_runs = most_runs;
        entries = es i;
        wishes = ws i;
        begun = s.state.begun;
        commits = s.state.commits;
        runs = s.state.runs;
        active = table i;
      }
  do_parts t op reply h =
      let es = changed_alike (gone_back t s.past s.entries) (taken_back_to_mark (state_of most_runs s) t) s.state.runs
      op reply
      s.entries (back_counts t op reply h) in
      let table = did_all t op reply (noted s.state.runs op reply s.entries) s.notes s.marks s.state.active in
      let runs = made_alike t op reply h in
      λ i. record {
        most_runs = most_runs;
        entries = es i;
        wishes = with_wish s.wishes (wished op reply);
        begun = s.state.begun;
        commits = s.state.commits;
        runs = s.state.runs + runs i;
        active = table i;
      }

  ended_parts : (t c : ℕ) → state_of most_runs (after_step s (Commit t) (Committed c)) ≡ state_after
      (state_of most_runs s) (Commit t)
      (Committed c)
  ended_parts t c = let table = ended-map s.notes s.marks t s.state.active in
      λ i. record {
        most_runs = most_runs;
        entries = s.entries;
        wishes = s.wishes;
        begun = s.state.begun;
        commits = s.state.commits + 1;
        runs = s.state.runs;
        active = table i;
      }

  aborted_parts : (t : ℕ) → is_open s.state.active t ≡ true → state_of most_runs (after_step s (Abort t) Aborted) ≡
      state_after
      (state_of most_runs s) (Abort t) Aborted
  aborted_parts t on =
      let table = ended-map s.notes s.marks t s.state.active in
      let es : aborted t s.past s.entries ≡ taken_back
      (in_table (map (active_of s.notes s.marks) s.state.active) t).notes s.entries =
      (describe_laws t s.past s.entries (s.notes t)
      (whole_describes t s.past s.entries (s.notes t) 0 (length (s.notes t)) (s.marks t)
      (r.keeps.describes t on))).aborted r.at.has.rising ∙ ap (λ ns. taken_back ns s.entries)
      (sym (notes-map s.notes s.marks s.state.active t on)) in
      λ i. record {
        most_runs = most_runs;
        entries = es i;
        wishes = s.wishes;
        begun = s.state.begun;
        commits = s.state.commits;
        runs = s.state.runs;
        active = table i;
      }

  clean_parts : (range : Interval) (limit : ℕ) (reply : Reply) →
      state_of most_runs (after_step s (Clean range limit) reply) ≡
      state_after (state_of most_runs s) (Clean range limit) reply
  clean_parts range limit reply = sym (ap (λ (hs : Holders).
      record {
        most_runs = most_runs;
        entries = all_worked_off (cleaned_by s.entries hs range reply) s.entries;
        wishes = s.wishes;
        begun = s.state.begun;
        commits = s.state.commits;
        runs = s.state.runs;
        active = map (active_of s.notes s.marks) s.state.active;
      }) holders_are)

  pub parts_after : (step : Step) (reply : Reply) → MayReply most_runs s step reply →
      state_of most_runs (after_step s step reply) ≡
      state_after (state_of most_runs s) step reply
  parts_after Begin (Begun t) h = begun_parts t h.0
  parts_after Begin (Refused why) h = refl
  parts_after (Do t op) reply h = do_parts t op reply h
  parts_after (Commit t) (Committed c) h = ended_parts t c
  parts_after (Abort t) Aborted h = aborted_parts t h
  parts_after (Merge limit) reply h = refl
  parts_after (Clean range limit) reply h = clean_parts range limit reply
  parts_after step (Refused why) h = refl
  parts_after step reply h = absurd h

-- ---- whole traces

follows_push : (most_runs : ℕ) (trace : Trace) (s : Store) (e : Event) → IsRunOf most_runs s trace →
    MayReply most_runs (after_all s trace) e.0 e.1 → IsRunOf most_runs s (trace ++ e ∷ [])
follows_push most_runs [] s e f m = (m, tt)
follows_push most_runs (x ∷ trace) s e f m = (f.0, follows_push most_runs trace (after_step s x.0 x.1) e f.1 m)

after_all-push : (trace : Trace) (s : Store) (e : Event) → after_all s (trace ++ e ∷ []) ≡ after_step
    (after_all s trace) e.0 e.1
after_all-push [] s e = refl
after_all-push (x ∷ trace) s e = after_all-push trace (after_step s x.0 x.1) e

pub lift : (trace : Trace) (p : StoreState) (step : Step) (reply : Reply) → IsStateOf trace p → MayAnswer p step reply →
    IsStateOf (trace ++ (step, reply) ∷ []) (state_after p step reply)
lift trace p step reply at may =
    let most_runs = p.most_runs in
    let s = after_all opened trace in
    let r = right_at most_runs trace at.follows in
    let m : MayReply most_runs s step reply = may_reply most_runs trace s r step reply
    (subst (λ (x : StoreState). MayAnswer x step reply) at.here may) in
    let longer = trace ++ (step, reply) ∷ [] in
    let next : state_after p step reply ≡ state_of most_runs (after_all opened longer) =
    ap (λ (x : StoreState). state_after x step reply) at.here ∙ sym (parts_after most_runs trace s r step reply m) ∙
    ap (state_of most_runs) (sym (after_all-push trace opened (step, reply))) in
    let kept : (state_after p step reply).most_runs ≡ most_runs = ap (λ (x : StoreState). x.most_runs) next in
    record {
      follows = subst (λ n. IsRunOf n opened longer) (sym kept)
          (follows_push most_runs trace opened (step, reply) at.follows m);
      here = subst (λ n. state_after p step reply ≡ state_of n (after_all opened longer)) (sym kept) next;
    }

-- ---- what a step may rest on

fit_of : (most_runs : ℕ) (trace : Trace) (s : Store) → Right most_runs trace s → IsFit (state_of most_runs s)
fit_of most_runs trace s r = record {
  rising = r.at.has.rising;
  one_place = r.at.has.one_place;
  below = r.keeps.below;
  can_abort = λ t on. let open_ = sym (is_in-map s.notes s.marks s.state.active t) ∙ on in
      subst (λ (ns : List Note). CanTakeBack ns (find s.entries))
      (sym (notes-map s.notes s.marks s.state.active t open_)) (laws t open_).whole.can;
  can_back = λ t on. let open_ = sym (is_in-map s.notes s.marks s.state.active t) ∙ on in
      subst (λ (ns : List Note). CanTakeBack (since_mark (in_table (map (active_of s.notes s.marks) s.state.active)
      t).marks ns) (find s.entries)) (sym (notes-map s.notes s.marks s.state.active t open_))
      (subst (λ (ms : List ℕ). CanTakeBack (since_mark ms (s.notes t)) (find s.entries))
      (sym (marks-map s.notes s.marks s.state.active t open_)) (laws t open_).can_back);
  begun = λ t on. r.keeps.fresh t (sym (is_in-map s.notes s.marks s.state.active t) ∙ on);
}
  where
    laws : (t : ℕ) → is_open s.state.active t ≡ true → MarkLaws s.entries (s.notes t) (owns_in s.state t)
        s.state.committed (s.marks t) (view s.state t).saved
    laws t on = mark_laws s.entries (s.notes t) (owns_in s.state t) s.state.committed r.at.has.rising r.at.has.one_place
        (s.marks t) (view s.state t).saved (r.at.undoes t on)

pub fit : (trace : Trace) (p : StoreState) → IsStateOf trace p → IsFit p
fit trace p at = subst (λ (x : StoreState). IsFit x) (sym at.here)
    (fit_of p.most_runs trace (after_all opened trace) (right_at p.most_runs trace at.follows))
