-- Every trace that the store of traces may make is sound.
use Rattle.std.proofs.Common.{◌≡◌, ◌≢◌, ◌≤◌, ◌<◌, ◌-◌, ℕ, length, List, [], ◌∷◌, ◌++◌, Bool, true, false, cond, ◌&&◌}
use Rattle.std.proofs.Common.{refl, sym, ap, ◌∙◌, subst, ⊎_elim, ◌⊎◌, inl, inr, Option, Some, None, append_assoc, arith}
use Rattle.std.proofs.Common.{zero, suc, take}
use Rattle.std.specs.Prelude.{◌==◌, not, min, is_none, MatchOption, MatchBool}
use Rattle.std.proofs.Math.Nat.{min-le_left}
use Rattle.std.proofs.lemmas.Bool.{cases_Bool, cond-true, cond-false, both_ways, or_cases, ne_eqb, eq-eqb, false≢true}
use Rattle.std.proofs.lemmas.List.{append-nil}
use Rattle.std.specs.List.{prefix_len}
use Rattle.std.proofs.lemmas.Bool.{not-false, false_from_ne_true}
use Rattle.std.proofs.lemmas.Option.{none-some}
use Rattle.am_law_effect.proofs.Backs.{describe_laws, unwritten}
use Rattle.am_law_effect.proofs.Lists.{Stands, look-reslotted, look-reslotted_none, rising-reslotted}
use Rattle.am_law_effect.proofs.Maintenance.{candidates_stand, clean_maintains, merge_maintains}
use Rattle.am_law_effect.proofs.Marks.{back_laws, backed_at, each_marked, each_next, taken_at, whole_describes}
use Rattle.am_law_effect.proofs.Marks.{wrote_since}
use Rattle.am_law_effect.proofs.Merges.{InRuns}
use Rattle.am_law_effect.proofs.NotesAtPlaces.{run_dropped}
use Rattle.am_law_effect.specs.History.{Moment, aborted, gone_back, left_at, moments_since, wrote}
use Rattle.am_law_effect.specs.Operations.{is_plain, changed, marks_left, noted, notes_left}
use Rattle.am_law_effect.specs.Laws.{Maintains}
use Rattle.am_law_effect.specs.MergeAnswers.{AnswersCandidates, AnswersFirst, Holders, MergeRight, all_worked_off}
use Rattle.am_law_effect.specs.MergeAnswers.{candidates, cleanable, merged_by}
use Rattle.am_law_effect.specs.Places.{look}
use Rattle.am_law_effect.specs.Store.{IsRunOf, MayReply, Store, WithinLimit, after_all, after_step, entries_after}
use Rattle.am_law_effect.specs.Store.{holder, marks_after, notes_after, opened}
use Rattle.am_law_sound.proofs.RepresentsLaws.{goes_on, plain_told}
use Rattle.am_law_sound.proofs.RepresentsLaws as follows
use Rattle.am_law_sound.specs.Represents.{RepresentsNext, Represents}
use Rattle.am_index.proofs.ContentLaws.{empty_content}
use Rattle.am_index.specs.Content.{OnePlace, content}
use Rattle.am_index.specs.Entries.{IsRising, Slot, find, slot_of}
use Rattle.am_record.specs.Asks.{locks_of, owns}
use Rattle.am_record.specs.EntryOrder.{Place}
use Rattle.am_record.specs.Interval.{Interval}
use Rattle.am_record.specs.OrderedKey.{OrderedKey}
use Rattle.am_record.specs.Plain.{answer, is_orderly, map_answer}
use Rattle.am_record.specs.declared.entry.Entry.{Entry}
use Rattle.am_record.specs.declared.step.Op.{Op}
use Rattle.am_record.specs.declared.step.Op.TheVariants.{Back, Get, Mark}
use Rattle.am_record.specs.declared.step.Refusal.{Refusal}
use Rattle.am_record.specs.declared.step.Refusal.TheVariants.{BadLimit, NoMemory, NoSuchTx, NotRising, TooManyOps}
use Rattle.am_record.specs.declared.step.Reply.{Reply}
use Rattle.am_record.specs.declared.step.Reply.TheVariants.{Aborted, Begun, Cleaned, Committed, Done, Moved, NoMark}
use Rattle.am_record.specs.declared.step.Reply.TheVariants.{Refused}
use Rattle.am_record.specs.declared.step.Step.{Step}
use Rattle.am_record.specs.declared.step.Step.TheVariants.{Abort, Begin, Clean, Commit, Do, Merge}
use Rattle.am_law_serial.proofs.OneStep.{step_laws}
use Rattle.am_law_serial.proofs.Runs.{answer_is_answer, none_of_both, none_of_first, none_without, after_run-push}
use Rattle.am_law_serial.proofs.States.{overlay_laws, view_laws}
use Rattle.am_law_serial.specs.Laws.{OverlayLaws, ViewLaws}
use Rattle.am_record.specs.Refusals.{is_limit}
use Rattle.am_law_serial.specs.Machine.{May, MayDo, Runs, State, Transaction, after_run, body_in, due, due_early}
use Rattle.am_law_serial.specs.Machine.{due_lock}
use Rattle.am_law_serial.specs.Machine.{is_full, is_open, next, owns_in, start, view}
use Rattle.am_law_serial.specs.Steps.{StepLaws}
use Rattle.am_record.specs.Events.{Event}
use Rattle.am_law_serial.specs.Trace.{Aborts, Answers, Commits, Effect, Nothing, Trace, effect, effect_of_do, ops_of}
use Rattle.am_record.specs.Marks.{until_mark, older, has_mark}
use Rattle.am_store_undo.specs.Undo.{is_noted_run}
use Rattle.am_store_undo.specs.declared.note.Note.{Note}
use Rattle.am_law_sound.proofs.Operations.{OpRight, op_right}
use Rattle.am_law_sound.proofs.KeptEntries.{Keeps, quiet, not_begun, begins, answers, lockless, not_both}

-- ---- what a merge may answer is formed

-- a limit within its bounds, or BadLimit
pub by_limit : (limit : ℕ) (reply : Reply) (right : Type 0) → WithinLimit limit reply right →
    ((is_limit limit ≡ true) × right) ⊎ ((is_limit limit ≡ false) × (reply ≡ Refused BadLimit))
by_limit limit reply right h = ⊎_elim
    (λ yes. inl (yes, subst (λ b. MatchBool b right (reply ≡ Refused BadLimit)) yes h))
    (λ not. inr (not, subst (λ b. MatchBool b right (reply ≡ Refused BadLimit)) not h))
    (cases_Bool (is_limit limit))

fewer : {X : Type 0} (n : ℕ) (xs : List X) → length (take n xs) ≤ length xs
fewer zero xs = omega arith
fewer (suc n) [] = omega arith
fewer (suc n) (x ∷ xs) = let ih = fewer n xs in omega arith

few : {X : Type 0} (n : ℕ) (xs : List X) → length (take n xs) ≤ n
few zero xs = omega arith
few (suc n) [] = omega arith
few (suc n) (x ∷ xs) = let ih = few n xs in omega arith

module _ (most_runs : ℕ) (st : State) (limit : ℕ) (within : is_limit limit ≡ true) (es : List Entry) (held : Holders)
    (below : (p : ℕ) (q : OrderedKey) → st.runs < p → find es p q ≡ None) where
  in_runs : (c : Entry) → (c.part ≢ 0) × Stands es c → (1 ≤ c.part) × (c.part ≤ st.runs)
  in_runs c h = (omega (arith, h.0), omega (arith, high))
    where
      high : st.runs < c.part → ⊥
      high up = none-some (slot_of c) (sym (below c.part c.key up) ∙ h.1)

  may_first : (c : Entry) (cs : List Entry) (o : Option ℕ) (reply : Reply) → (c.part ≢ 0) × Stands es c →
      AnswersFirst es held limit c cs o reply → May most_runs st (Merge limit) reply
  may_first c cs (Some h) reply stands e = subst (May most_runs st (Merge limit)) (sym e) within
  may_first c cs None (Moved n run) stands e =
      let most_few = few limit cs in
      let most_fewer = fewer (prefix_len (λ (x : Entry). (x.part == run) && is_none (held x.key)) (take limit cs))
      (take limit cs) in
      let at_most = e.1.at_most in
      let parts = in_runs c stands in
      (within, e.1.some, omega arith, subst (λ r. 1 ≤ r) (sym e.0) parts.0, subst (λ r. r ≤ st.runs) (sym e.0) parts.1)
  may_first c cs None reply stands e = subst (May most_runs st (Merge limit)) (sym e.0) within

  may_candidates : (cs : List Entry) (reply : Reply) → InRuns es cs → AnswersCandidates es held limit cs reply →
      May most_runs st (Merge limit) reply
  may_candidates [] reply stands e = subst (May most_runs st (Merge limit)) (sym e) within
  may_candidates (c ∷ cs) reply stands e = may_first c (c ∷ cs) (held c.key) reply stands.0 e

  may_merge : (wishes : List Interval) (reply : Reply) → IsRising es → MergeRight es wishes held limit reply →
      May most_runs st (Merge limit) reply
  may_merge [] reply rise e = subst (May most_runs st (Merge limit)) (sym e) within
  may_merge (w ∷ ws) reply rise e = may_candidates (candidates es w) reply (candidates_stand es w rise) e

lesser : (a b : ℕ) → min a b ≤ a
lesser a b = min-le_left a b

pub may_of : (most_runs : ℕ) (s : Store) → IsRising s.entries →
    ((p : ℕ) (q : OrderedKey) → s.state.runs < p → find s.entries p q ≡ None) → (step : Step) (reply : Reply) →
    MayReply most_runs s step reply → May most_runs s.state step reply
may_of most_runs s rise below (Merge limit) reply h = ⊎_elim
    (λ right. may_merge most_runs s.state limit right.0 s.entries (holder s.state.active) below s.wishes reply rise
    right.1)
    (λ bad. subst (May most_runs s.state (Merge limit)) (sym bad.1) bad.0)
    (by_limit limit reply _ h)
may_of most_runs s rise below (Clean range limit) reply h = ⊎_elim
    (λ right. subst (May most_runs s.state (Clean range limit)) (sym right.1)
    (right.0, lesser limit (length (cleanable s.entries (holder s.state.active) range))))
    (λ bad. subst (May most_runs s.state (Clean range limit)) (sym bad.1) bad.0)
    (by_limit limit reply _ h)
may_of most_runs s rise below step reply h = h

pub merged_bad : (s : Store) (limit : ℕ) (reply : Reply) → reply ≡ Refused BadLimit →
    entries_after s (Merge limit) reply ≡ s.entries
merged_bad s limit reply e = ap (λ r. all_worked_off (merged_by s.entries s.wishes r) s.entries) e ∙ none_of s.wishes
  where
    none_of : (wishes : List Interval) → all_worked_off (merged_by s.entries wishes (Refused BadLimit)) s.entries ≡
        s.entries
    none_of [] = refl
    none_of (w ∷ ws) = refl

-- a place of a key that wasn't written
pub untouched : (t : ℕ) (past : List Moment) (es : List Entry) (a : Place) → wrote t a.1 past ≡ false →
    look (aborted t past es) a ≡ look es a
untouched t past es a none = by_slot (look es a) refl
  where
    by_slot : (o : Option Slot) → look es a ≡ o → look (aborted t past es) a ≡ look es a
    by_slot None e = look-reslotted_none (λ part key s. left_at t (part, key) past es) es a e ∙ sym e
    by_slot (Some s) e = look-reslotted (λ part key x. left_at t (part, key) past es) es a s s e
        (unwritten t a past es none ∙ e) ∙ sym e

pub rising-aborted : (t : ℕ) (past : List Moment) (es : List Entry) → IsRising es → IsRising (aborted t past es)
rising-aborted t past es r = rising-reslotted (λ part key s. left_at t (part, key) past es) es r

orderly_of : (s : State) (t : ℕ) (op : Op) → due false s t op ≡ None → is_orderly op ≡ true
orderly_of s t op none_due =
    let both = none_of_both (due_early false s t op) (due_lock s t op) none_due in
    let open_ = none_of_first (not (is_open s.active t)) NoSuchTx _ both.0 in
    let few = none_of_first _ TooManyOps _ open_.1 in
    not-false (is_orderly op) (none_of_first (not (is_orderly op)) NotRising _ few.1).0

-- ---- who holds a key

holder_of : (txs : List Transaction) (t : ℕ) (q : OrderedKey) → is_open txs t ≡ true →
    owns (locks_of (ops_of (body_in txs t))) q ≡ true → (h : ℕ) × (holder txs q ≡ Some h)
holder_of [] t q o w = absurd (false≢true o)
holder_of (x ∷ txs) t q o w = ⊎_elim
    (λ own. (x.0, cond-true _ (Some x.0) (holder txs q) own))
    (λ no. ⊎_elim
    (λ here. absurd (both_ways (owns (locks_of (ops_of x.1)) q) no
    (subst (λ b. owns (locks_of (ops_of b)) q ≡ true) (cond-true (x.0 == t) x.1 (body_in txs t) here) w)))
    (λ there.
    let rest = holder_of txs t q (⊎_elim (λ yes. absurd (both_ways _ there yes)) (λ later. later)
    (or_cases (x.0 == t) (is_open txs t) o))
    (subst (λ b. owns (locks_of (ops_of b)) q ≡ true) (cond-false (x.0 == t) x.1 (body_in txs t) there) w) in
    (rest.0, cond-false _ (Some x.0) (holder txs q) no ∙ rest.1))
    (cases_Bool (x.0 == t)))
    (cases_Bool (owns (locks_of (ops_of x.1)) q))

pub either_way : {A : Type 0} (b : Bool) (x : A) → cond b x x ≡ x
either_way true x = refl
either_way false x = refl

-- a refused operation changes and notes nothing
pub changed_refused : (gone : List Entry) (runs : ℕ) (op : Op) (why : Refusal) (es : List Entry) →
    changed gone runs op (Refused why) es ≡ es
changed_refused gone runs (Get k) why es = refl
changed_refused gone runs op why es = refl

pub noted_refused : (runs : ℕ) (op : Op) (why : Refusal) (es : List Entry) → noted runs op (Refused why) es ≡ []
noted_refused runs (Get k) why es = refl
noted_refused runs op why es = refl

pub notes_left_refused : (op : Op) (why : Refusal) (marks : List ℕ) (notes : List Note) →
    notes_left op (Refused why) marks notes ≡ notes
notes_left_refused (Get k) why marks notes = refl
notes_left_refused op why marks notes = refl

pub marks_left_refused : (op : Op) (why : Refusal) (n : ℕ) (marks : List ℕ) → marks_left op (Refused why) n marks ≡
    marks
marks_left_refused (Get k) why n marks = refl
marks_left_refused op why n marks = refl

-- Mark and Back aside, notes and marks stay
notes_left_plain : (op : Op) (reply : Reply) (marks : List ℕ) (notes : List Note) → is_plain op ≡ true →
    notes_left op reply marks notes ≡ notes
notes_left_plain Mark reply marks notes plain = absurd (false≢true plain)
notes_left_plain Back reply marks notes plain = absurd (false≢true plain)
notes_left_plain op reply marks notes plain = refl

marks_left_plain : (op : Op) (reply : Reply) (n : ℕ) (marks : List ℕ) → is_plain op ≡ true →
    marks_left op reply n marks ≡ marks
marks_left_plain Mark reply n marks plain = absurd (false≢true plain)
marks_left_plain Back reply n marks plain = absurd (false≢true plain)
marks_left_plain op reply n marks plain = refl

-- ---- the store at a trace

pub record Right (most_runs : ℕ) (trace : Trace) (s : Store) : Type 0 where
  pub runs : Runs most_runs start trace
  pub is : s.state ≡ after_run start trace
  pub at : Represents s.state s.entries s.notes s.marks
  pub keeps : Keeps s.state s.entries s.past s.notes s.marks

-- the store goes on
abbrev NextAt : Store → Effect → List Entry → (ℕ → List Note) → (ℕ → List ℕ) → Type 0
NextAt s d es' notes' marks' = Represents (next s.state d) es' notes' marks' ×
    Keeps (next s.state d) es' ((d, s.entries) ∷ s.past) notes' marks'

abbrev Next : Store → Step → Reply → Type 0
Next s step reply = NextAt s (effect step reply) (entries_after s step reply) (notes_after s step reply)
    (marks_after s step reply)

module _ (s : Store) (o : OverlayLaws s.state) (w : ViewLaws s.state)
    (at : Represents s.state s.entries s.notes s.marks) (k : Keeps s.state s.entries s.past s.notes s.marks) where
  st : StepLaws s.state
  st = step_laws s.state

  go : RepresentsNext s.state s.entries s.notes s.marks
  go = goes_on s.state o w st s.entries s.notes s.marks at

  abbrev rising : IsRising s.entries
  rising = at.has.rising

  abbrev one : OnePlace s.entries
  one = at.has.one_place

  -- an event that does nothing to the entries and the transactions
  nothing : Keeps s.state s.entries ((Nothing, s.entries) ∷ s.past) s.notes s.marks
  nothing = quiet s.state w st s.entries s.past s.notes s.marks k s.state Nothing s.entries (λ t q. refl) (λ t. refl)
      (λ t. refl) (λ t on. on) (λ t on. refl) refl refl (λ t on q h p. refl) (λ p q n e. e)

  maintained : (es' : List Entry) → Maintains (holder s.state.active) s.entries es' →
      Represents s.state es' s.notes s.marks × Keeps s.state es' ((Nothing, s.entries) ∷ s.past) s.notes s.marks
  maintained es' m = (
    go.maintained es' (record { rising = m.rising; one_place = m.one one; same = m.same one })
        (λ t q on h p. let held = holder_of s.state.active t q on h in m.locked q held.0 held.1 p)
        (λ t on p q r e. m.runs p q (k.runs_noted t p r).0 e),
    quiet s.state w st s.entries s.past s.notes s.marks k s.state Nothing es' (λ t q. refl) (λ t. refl) (λ t. refl)
        (λ t on. on) (λ t on. refl) refl refl
        (λ t on q h p. let held = holder_of s.state.active t q on h in m.locked q held.0 held.1 p)
        m.runs,
  )

  abbrev gone : ℕ → List Entry
  gone t = gone_back t s.past s.entries

  granted_plain : (t : ℕ) (op : Op) → due false s.state t op ≡ None → is_plain op ≡ true →
      Next s (Do t op) (answer op (view s.state t))
  granted_plain t op none plain =
      let reply = answer op (view s.state t) in
      let orderly = orderly_of s.state t op none in
      let told_is : map_answer op (content s.entries) ≡ reply =
      sym (go.answered t op none ∙ plain_told op (s.marks t) (content s.entries) plain) in
      let r : OpRight t s.state.runs op reply s.entries (changed (gone t) s.state.runs op reply s.entries)
      (noted s.state.runs op reply s.entries) =
      subst (λ x. OpRight t s.state.runs op x s.entries (changed (gone t) s.state.runs op x s.entries)
      (noted s.state.runs op x s.entries)) told_is
      (op_right (gone t) t s.state.runs s.entries rising one k.below op orderly plain) in
      let effect_is : effect_of_do t op reply ≡ Answers t op reply = answer_is_answer t op (view s.state t) in
      let new = noted s.state.runs op reply s.entries in
      let es' = changed (gone t) s.state.runs op reply s.entries in
      let same_notes : notes_after s (Do t op) reply ≡ (λ u. cond (t == u) (new ++ s.notes u) (s.notes u)) =
      λ i u. cond (t == u) (new ++ notes_left_plain op reply (s.marks u) (s.notes u) plain i) (s.notes u) in
      let same_marks : marks_after s (Do t op) reply ≡ s.marks =
      λ i u. (ap (λ (ms : List ℕ). cond (t == u) ms (s.marks u))
      (marks_left_plain op reply (length (s.notes u)) (s.marks u) plain) ∙ either_way (t == u) (s.marks u)) i in
      subst (λ d. NextAt s d es' (notes_after s (Do t op) reply) (marks_after s (Do t op) reply)) (sym effect_is)
      (subst (λ ns. NextAt s (Answers t op reply) es' ns (marks_after s (Do t op) reply)) (sym same_notes)
      (subst (λ ms. NextAt s (Answers t op reply) es' (λ u. cond (t == u) (new ++ s.notes u) (s.notes u)) ms)
      (sym same_marks) (
        go.done t op es' new none plain (record {
          has = r.has;
          only = r.only;
          keeps = λ u n p q made e. let b = k.runs_noted u p made in r.keeps p q b.0 b.1 e;
          own = r.undo;
        }),
        answers s.state w st s.entries s.past s.notes s.marks k t op reply (st.granted t op none) orderly es' new plain
            r (go.made t op none reply),
      )))

  here : (t : ℕ) (A : Type 0) (x y : A) → cond (t == t) x y ≡ x
  here t A x y = cond-true (t == t) x y (eq-eqb t t refl)

  elsewhere : (t u : ℕ) (A : Type 0) (x y : A) → u ≢ t → cond (t == u) x y ≡ y
  elsewhere t u A x y n = cond-false (t == u) x y (ne_eqb t u (λ e. n (sym e)))

  -- a mark is set
  granted_mark : (t : ℕ) → due false s.state t Mark ≡ None → Next s (Do t Mark) Done
  granted_mark t none =
      let grant = st.granted t Mark none in
      let marks' = λ (u : ℕ). cond (t == u) (length (s.notes u) ∷ s.marks u) (s.marks u) in
      let same_notes : notes_after s (Do t Mark) Done ≡ s.notes = λ i u. either_way (t == u) (s.notes u) i in
      subst (λ ns. NextAt s (Answers t Mark Done) s.entries ns marks') (sym same_notes) (
        go.marked t none,
        lockless s.state w st s.entries s.past s.notes s.marks k t Mark Done grant refl s.entries (λ u hu n q h p. refl)
            (λ p q e. e)
            (s.notes t) (length (s.notes t) ∷ s.marks t) (each_marked t s.past s.entries (s.notes t) (s.marks t)
            (k.describes t grant.is_active)) (λ p h. h)
            s.notes marks' refl (here t (List ℕ) (length (s.notes t) ∷ s.marks t) (s.marks t)) (λ u n. refl)
            (λ u n. elsewhere t u (List ℕ) (length (s.notes u) ∷ s.marks u) (s.marks u) n),
      )

  fewer_runs : (marks : List ℕ) (notes : List Note) (p : ℕ) → is_noted_run (until_mark marks notes) p ≡ true →
      is_noted_run notes p ≡ true
  fewer_runs [] notes p h = h
  fewer_runs (mark ∷ marks) notes p h = run_dropped (length notes - mark) notes p h

  -- what another owns, it didn't write
  unwritten_by : (t u : ℕ) → is_open s.state.active t ≡ true → is_open s.state.active u ≡ true → u ≢ t →
      (q : OrderedKey) → owns_in s.state u q ≡ true → wrote t q s.past ≡ false
  unwritten_by t u ht hu n q h = false_from_ne_true (wrote t q s.past)
      (λ wr. both_ways (owns_in s.state t q) (not_both s.state w st s.entries s.past s.notes s.marks k u t hu ht n q h)
      (k.owned t q ht wr))

  -- it goes back to the newest mark
  gone_to_mark : (t : ℕ) → due false s.state t Back ≡ None → has_mark (s.marks t) ≡ true → Next s (Do t Back) Done
  gone_to_mark t none some =
      let grant = st.granted t Back none in
      let each = k.describes t grant.is_active in (
        go.backed t (gone t) none some (record {
          rising = rising-aborted t (moments_since t s.past 0) s.entries;
          at = λ p q. backed_at t s.past s.entries (s.notes t) (length (s.notes t)) (s.marks t) some each (p, q);
        }),
        lockless s.state w st s.entries s.past s.notes s.marks k t Back Done grant refl (gone t)
            (λ u hu n q h p. untouched t (moments_since t s.past 0) s.entries (p, q)
            (false_from_ne_true _ (λ wr. both_ways _ (unwritten_by t u grant.is_active hu n q h)
            (wrote_since t q s.past 0 wr))))
            (λ p q e. look-reslotted_none (λ part key x. left_at t (part, key) (moments_since t s.past 0) s.entries)
            s.entries (p, q) e)
            (until_mark (s.marks t) (s.notes t)) (older (s.marks t))
            (back_laws t s.past s.entries (s.notes t) (s.marks t) each some).goes_on
            (fewer_runs (s.marks t) (s.notes t))
            (λ u. cond (t == u) (until_mark (s.marks u) (s.notes u)) (s.notes u))
            (λ u. cond (t == u) (older (s.marks u)) (s.marks u))
            (here t (List Note) (until_mark (s.marks t) (s.notes t)) (s.notes t))
            (here t (List ℕ) (older (s.marks t)) (s.marks t))
            (λ u n. elsewhere t u (List Note) (until_mark (s.marks u) (s.notes u)) (s.notes u) n)
            (λ u n. elsewhere t u (List ℕ) (older (s.marks u)) (s.marks u) n),
      )

  -- no mark stands
  no_mark : (t : ℕ) → due false s.state t Back ≡ None → has_mark (s.marks t) ≡ false → Next s (Do t Back) NoMark
  no_mark t none any =
      let grant = st.granted t Back none in
      let same_notes : notes_after s (Do t Back) NoMark ≡ s.notes = λ i u. either_way (t == u) (s.notes u) i in
      let same_marks : marks_after s (Do t Back) NoMark ≡ s.marks = λ i u. either_way (t == u) (s.marks u) i in
      subst (λ ns. NextAt s (Answers t Back NoMark) s.entries ns (marks_after s (Do t Back) NoMark)) (sym same_notes)
      (subst (λ ms. NextAt s (Answers t Back NoMark) s.entries s.notes ms) (sym same_marks) (
        go.stayed t none any,
        lockless s.state w st s.entries s.past s.notes s.marks k t Back NoMark grant refl s.entries
            (λ u hu n q h p. refl) (λ p q e. e)
            (s.notes t) (s.marks t)
            (each_next t s.past (Answers t Back NoMark) s.entries s.entries (s.notes t) [] (s.marks t)
            (ap (λ b. b && false) (eq-eqb t t refl)) (ap (λ b. b && false) (eq-eqb t t refl))
            (λ past' part m r u. (describe_laws t past' s.entries part u).others (Answers t Back NoMark) s.entries
            (λ q. ap (λ b. b && false) (eq-eqb t t refl)) (λ q h p. refl) (λ q p made e. e))
            (k.describes t grant.is_active))
            (λ p h. h)
            s.notes s.marks refl refl (λ u n. refl) (λ u n. refl),
      ))

  granted_back : (t : ℕ) → due false s.state t Back ≡ None → Next s (Do t Back) (answer Back (view s.state t))
  granted_back t none = by_mark (has_mark (s.marks t)) refl
    where
      told_is : (b : Bool) → has_mark (s.marks t) ≡ b → answer Back (view s.state t) ≡ cond b Done NoMark
      told_is b e = go.answered t Back none ∙ ap (λ c. cond c Done NoMark) e

      by_mark : (b : Bool) → has_mark (s.marks t) ≡ b → Next s (Do t Back) (answer Back (view s.state t))
      by_mark true e = subst (Next s (Do t Back)) (sym (told_is true e)) (gone_to_mark t none e)
      by_mark false e = subst (Next s (Do t Back)) (sym (told_is false e)) (no_mark t none e)

  granted : (t : ℕ) (op : Op) → due false s.state t op ≡ None → Next s (Do t op) (answer op (view s.state t))
  granted t Mark none = granted_mark t none
  granted t Back none = granted_back t none
  granted t op none = granted_plain t op none refl

  -- a refused operation
  refused : (t : ℕ) (op : Op) (why : Refusal) → Next s (Do t op) (Refused why)
  refused t op why =
      let same_marks : marks_after s (Do t op) (Refused why) ≡ s.marks = λ i u. same_marks_at u i in
      subst (λ es. NextAt s Nothing es (notes_after s (Do t op) (Refused why)) (marks_after s (Do t op) (Refused why)))
      (sym (changed_refused (gone t) s.state.runs op why s.entries))
      (subst (λ ns. NextAt s Nothing s.entries ns (marks_after s (Do t op) (Refused why))) (sym same_notes)
      (subst (λ ms. NextAt s Nothing s.entries s.notes ms) (sym same_marks) (at, nothing)))
    where
      same_at : (u : ℕ) → cond (t == u) (noted s.state.runs op (Refused why) s.entries ++
          notes_left op (Refused why) (s.marks u) (s.notes u)) (s.notes u) ≡ s.notes u
      same_at u =
          ap (λ (ns : List Note). cond (t == u) (ns ++ notes_left op (Refused why) (s.marks u) (s.notes u)) (s.notes u))
          (noted_refused s.state.runs op why s.entries)
          ∙ ap (λ (ns : List Note). cond (t == u) ns (s.notes u)) (notes_left_refused op why (s.marks u) (s.notes u)) ∙
          either_way (t == u) (s.notes u)

      same_notes : notes_after s (Do t op) (Refused why) ≡ s.notes
      same_notes i u = same_at u i

      same_marks_at : (u : ℕ) → cond (t == u) (marks_left op (Refused why) (length (s.notes u)) (s.marks u))
          (s.marks u) ≡ s.marks u
      same_marks_at u = ap (λ (ms : List ℕ). cond (t == u) ms (s.marks u))
          (marks_left_refused op why (length (s.notes u)) (s.marks u)) ∙ either_way (t == u) (s.marks u)

  do_step : (most_runs t : ℕ) (op : Op) (reply : Reply) → MayDo most_runs s.state t op reply → Next s (Do t op) reply
  do_step most_runs t op reply may = by_due (is_full most_runs s.state.runs reply)
      (due (is_full most_runs s.state.runs reply) s.state t op) refl may
    where
      by_due : (full : Bool) (o : Option Refusal) → due full s.state t op ≡ o →
          MatchOption o ((reply ≡ answer op (view s.state t)) ⊎ (reply ≡ Refused NoMemory))
          (λ why. reply ≡ Refused why) →
          Next s (Do t op) reply
      by_due full None e m = ⊎_elim
          (λ answered. subst (Next s (Do t op)) (sym answered) (granted t op (none_without full s.state t op e)))
          (λ want. subst (Next s (Do t op)) (sym want) (refused t op NoMemory))
          m
      by_due full (Some why) e m = subst (Next s (Do t op)) (sym m) (refused t op why)

  -- a transaction ends, and the entries stay
  commits : (t : ℕ) → is_open s.state.active t ≡ true → NextAt s (Commits t) s.entries s.notes s.marks
  commits t on = (
    go.committed t on,
    quiet s.state w st s.entries s.past s.notes s.marks k (next s.state (Commits t)) (Commits t) s.entries (λ u q. refl)
        (λ u. refl) (λ u. refl)
        (λ u h. sym (st.commits_others t u (other u h)).is_active ∙ h)
        (λ u h. (st.commits_others t u (other u h)).locks) refl refl (λ u h q own p. refl) (λ p q n e. e),
  )
    where
      other : (u : ℕ) → is_open (next s.state (Commits t)).active u ≡ true → u ≢ t
      other u h e = both_ways (is_open (next s.state (Commits t)).active t) (st.commits t)
          (ap (is_open (next s.state (Commits t)).active) (sym e) ∙ h)

  aborts : (t : ℕ) → is_open s.state.active t ≡ true → NextAt s (Aborts t) (aborted t s.past s.entries) s.notes s.marks
  aborts t on = (
    go.aborted t (aborted t s.past s.entries) on (record {
      rising = rising-aborted t s.past s.entries;
      at = λ p q. taken_at t s.past s.entries (s.notes t)
          (whole_describes t s.past s.entries (s.notes t) 0 (length (s.notes t)) (s.marks t) (k.describes t on)) (p, q);
    }),
    quiet s.state w st s.entries s.past s.notes s.marks k (next s.state (Aborts t)) (Aborts t)
        (aborted t s.past s.entries) (λ u q. refl) (λ u. refl) (λ u. refl)
        was (λ u h. (st.aborts_others t u (other u h)).keeps.locks) refl refl
        (λ u h q own p. untouched t s.past s.entries (p, q) (unwritten_by t u on (was u h) (other u h) q own))
        (λ p q n e. look-reslotted_none (λ part key x. left_at t (part, key) s.past s.entries) s.entries (p, q) e),
  )
    where
      other : (u : ℕ) → is_open (next s.state (Aborts t)).active u ≡ true → u ≢ t
      other u h e = both_ways (is_open (next s.state (Aborts t)).active t) (st.aborts t)
          (ap (is_open (next s.state (Aborts t)).active) (sym e) ∙ h)

      was : (u : ℕ) → is_open (next s.state (Aborts t)).active u ≡ true → is_open s.state.active u ≡ true
      was u h = sym (st.aborts_others t u (other u h)).keeps.is_active ∙ h

  step_on : (most_runs : ℕ) (step : Step) (reply : Reply) → MayReply most_runs s step reply → Next s step reply
  step_on most_runs Begin (Begun t) may = (
    go.begun t (not_begun s.state w st s.entries s.past s.notes s.marks k t may.0),
    begins s.state w st s.entries s.past s.notes s.marks k t may.0,
  )
  step_on most_runs (Do t op) reply may = do_step most_runs t op reply may
  step_on most_runs (Commit t) (Committed c) may = commits t may.0
  step_on most_runs (Abort t) Aborted may = aborts t may
  step_on most_runs (Merge limit) reply may = ⊎_elim
      (λ right. maintained (entries_after s (Merge limit) reply)
      (merge_maintains s.entries s.wishes (holder s.state.active) limit reply rising right.1))
      (λ bad. subst (λ es. NextAt s Nothing es s.notes s.marks) (sym (merged_bad s limit reply bad.1)) (at, nothing))
      (by_limit limit reply _ may)
  step_on most_runs (Clean range limit) (Cleaned n) may = maintained (entries_after s (Clean range limit) (Cleaned n))
      (clean_maintains s.entries (holder s.state.active) range n rising)
  step_on most_runs step reply may = (at, nothing)

-- ---- whole traces

runs_push : (most_runs : ℕ) (trace : Trace) (s : State) (e : Event) → Runs most_runs s trace →
    May most_runs (after_run s trace) e.0 e.1 → Runs most_runs s (trace ++ e ∷ [])
runs_push most_runs [] s e r m = (m, tt)
runs_push most_runs (x ∷ trace) s e r m = (r.0, runs_push most_runs trace (next s (effect x.0 x.1)) e r.1 m)

pub one_more : (most_runs : ℕ) (trace : Trace) (s : Store) (e : Event) → Right most_runs trace s →
    MayReply most_runs s e.0 e.1 → Right most_runs (trace ++ e ∷ []) (after_step s e.0 e.1)
one_more most_runs trace s e r may =
    let o = subst (λ (st : State). OverlayLaws st) (sym r.is) (overlay_laws most_runs trace r.runs) in
    let w = subst (λ (st : State). ViewLaws st) (sym r.is) (view_laws most_runs trace r.runs) in
    let out = step_on s o w r.at r.keeps most_runs e.0 e.1 may in
    record {
      runs = runs_push most_runs trace start e r.runs (subst (λ (st : State). May most_runs st e.0 e.1) r.is
          (may_of most_runs s r.at.has.rising r.keeps.below e.0 e.1 may));
      is = ap (λ (st : State). next st (effect e.0 e.1)) r.is ∙ sym (after_run-push trace start e);
      at = out.0;
      keeps = out.1;
    }

all_more : (most_runs : ℕ) (before : Trace) (s : Store) (trace : Trace) → Right most_runs before s →
    IsRunOf most_runs s trace → Right most_runs (before ++ trace) (after_all s trace)
all_more most_runs before s [] r f = subst (λ (x : Trace). Right most_runs x s) (sym (append-nil before)) r
all_more most_runs before s (e ∷ trace) r f = subst
    (λ (x : Trace). Right most_runs x (after_all (after_step s e.0 e.1) trace))
    (append_assoc before (e ∷ []) trace) (all_more most_runs (before ++ e ∷ []) (after_step s e.0 e.1) trace
    (one_more most_runs before s e r f.0) f.1)

pub at_start : (most_runs : ℕ) → Right most_runs [] opened
at_start most_runs = record {
  runs = tt;
  is = refl;
  at = follows.opened (λ t. []) empty_content;
  keeps = record {
    describes = λ t on. absurd (false≢true on);
    owned = λ t q on w. absurd (false≢true on);
    unborn = λ t q h. refl;
    fresh = λ t on. absurd (false≢true on);
    runs_noted = λ t p h. absurd (false≢true h);
    below = λ p q l. refl;
  };
}

pub right_at : (most_runs : ℕ) (trace : Trace) → IsRunOf most_runs opened trace →
    Right most_runs trace (after_all opened trace)
right_at most_runs trace f = all_more most_runs [] opened trace (at_start most_runs) f
