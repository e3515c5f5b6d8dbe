-- A store with one transaction at a time, step by step.
use Rattle.std.proofs.Common.{◌≡◌, ◌⊎◌, inl, inr, ℕ, ◌+◌, nat_le, length, List, [], ◌∷◌, ◌++◌, Bool, true, false, cond}
use Rattle.std.proofs.Common.{not, ◌&&◌, ◌||◌, map, Option, Some, None, refl, sym, ap, ◌∙◌, subst, append_assoc}
use Rattle.std.specs.Prelude.{MatchOption, Result, Ok, Err, OnOk, OnErr}
use Rattle.std.proofs.lemmas.Bool.{true≢false}
use Rattle.std.proofs.Math.Bool.{and-false}
use Rattle.std.proofs.lemmas.List.{append-nil}
use Rattle.std.proofs.lemmas.Cmp.{nat_eq_equiv}
use Rattle.am_record.specs.Limits.{max_ops, max_runs}
use Rattle.am_record.specs.Plain.{PlainMap, fresh, answer, left, left_on, is_orderly}
use Rattle.am_record.specs.Asks.{lock_of, locks_of}
use Rattle.am_record.specs.Refusals.{is_bounded, may_make_run, is_one_too_many, lock_refusal}
use Rattle.am_record.specs.Refusals.{or_else}
use Rattle.am_record.specs.declared.memory.NoMemory.{NoMemory as OutOfMemory}
use Rattle.am_record.specs.declared.step.Op.{Op}
use Rattle.am_record.specs.declared.step.Step.{Step}
use Rattle.am_record.specs.declared.step.Step.TheVariants.{Begin, Do, Commit, Abort}
use Rattle.am_record.specs.declared.step.Reply.{Reply}
use Rattle.am_record.specs.declared.step.Reply.TheVariants.{Begun, Committed, Aborted, Refused}
use Rattle.am_record.specs.declared.step.Refusal.{Refusal}
use Rattle.am_record.specs.declared.step.Refusal.TheVariants.{NoSuchTx, TooManyOps, NotRising, BadLimit, TooManyRuns}
use Rattle.am_record.specs.declared.step.Refusal.TheVariants.{NoMemory}
use Rattle.am_record.specs.Events.{Event}
use Rattle.am_index.specs.Content.{content}
use Rattle.am_law_serial.specs.Trace.{Trace, Answered, ops_of, Answers, Commits, Aborts, effect, effect_of_do}
use Rattle.am_law_serial.specs.Trace.{runs_made, Nothing}
use Rattle.am_law_serial.specs.Machine.{State, MayDo, is_full, due, next, overlay_in}
use Rattle.am_law_effect.specs.Laws.{taken_back}
use Rattle.am_law_effect.specs.Store.{Store, opened, MayReply, IsRunOf, after_step, after_all}
use Rattle.am_law_sound.specs.Right.{IsSoundStore}
use Rattle.am_law_sound.specs.StoreState.{Active, StoreState, is_in, in_table, without_tx, MayAnswer, state_after}
use Rattle.am_law_sound.specs.StoreState.{empty_state}
use Rattle.am_law_sound.specs.StateOf.{IsStateOf, active_of}
use Rattle.am_store.specs.StoreSteps.{IsSoundAt, Extends}
use Rattle.am_store.proofs.StoreSteps.{Lifts, Sounds}
use Rattle.am_line_dialogue.specs.Say.{refusal_due}
use Rattle.am_line_dialogue.proofs.SaidByMap.{Where, machine_at, state_at, answer_answers, answer_counts, due_is}
use Rattle.am_line_dialogue.proofs.SaidByMap.{one_view}
use Rattle.am_line_dialogue.proofs.SaidByMap.{next_did, next_committed, next_aborted, ops_did}
use Rattle.am_replica.specs.Bodies.{refusal_behind, own_by, own_behind, kept_behind, kept_ops, reply_by, reply_behind}
use Rattle.am_replica.specs.Bodies.{replies_behind, replies, leaves}
use Rattle.am_replica_store.specs.Alone.{notes_of, committed_map, draft_map, IsIdle, rested, at_rest, IsFree, IsInside}
use Rattle.am_replica_store.specs.Alone.{IsAlone, is_out_of_room, IsCommitted, IsAborted}

-- ---- a trace with one more event

after_one_more : (before : Trace) (s : Store) (e : Event) → after_all s (before ++ e ∷ []) ≡
    after_step (after_all s before) e.0 e.1
after_one_more [] s e = refl
after_one_more (x ∷ trace) s e = after_one_more trace (after_step s x.0 x.1) e

last_follows : (most_runs : ℕ) (trace : Trace) (s : Store) (e : Event) → IsRunOf most_runs s (trace ++ e ∷ []) →
    MayReply most_runs (after_all s trace) e.0 e.1
last_follows most_runs [] s e f = f.0
last_follows most_runs (x ∷ trace) s e f = last_follows most_runs trace (after_step s x.0 x.1) e f.1

-- the machine's state where the trace leads
abbrev state : Trace → State
state trace = (after_all opened trace).state

record Goes (trace : Trace) (step : Step) (reply : Reply) (p' : StoreState) : Type 0 where
  at : IsStateOf (trace ++ (step, reply) ∷ []) p'
  sound : IsSoundStore p'.most_runs (trace ++ (step, reply) ∷ [])
  most : p'.most_runs ≡ 65535
  leads : state (trace ++ (step, reply) ∷ []) ≡ next (state trace) (effect step reply)
  may : MayReply 65535 (after_all opened trace) step reply

goes : (trace : Trace) (p p' : StoreState) (step : Step) (reply : Reply) → IsStateOf trace p → p.most_runs ≡ 65535
    → Extends p ((step, reply) ∷ []) p' → Goes trace step reply p'
goes trace p p' step reply at most on =
    let there : IsSoundAt (trace ++ (step, reply) ∷ []) p' = on.on trace at in
    let most' : p'.most_runs ≡ 65535 = on.most ∙ most in
    record {
      at = there.at;
      sound = there.sound;
      most = most';
      leads = ap (λ (s : Store). s.state) (after_one_more trace opened (step, reply));
      may = last_follows 65535 trace opened (step, reply)
          (subst (λ n. IsRunOf n opened (trace ++ (step, reply) ∷ [])) most' there.at.follows);
    }

-- ---- where a store stands with one transaction or none

same_begun : (trace : Trace) (p : StoreState) → IsStateOf trace p → p.begun ≡ (state trace).begun
same_begun trace p at = ap (λ (q : StoreState). q.begun) at.here

content_is : (trace : Trace) (p : StoreState) → IsStateOf trace p → IsSoundStore p.most_runs trace →
    content p.entries ≡ overlay_in (state trace)
content_is trace p at sound = ap (λ (q : StoreState). content q.entries) at.here ∙ sound.ready.at.has.same

-- the table of a store has an entry for each active transaction of the machine
abbrev table : Store → List Active
table s = map (active_of s.notes s.marks) s.state.active

table_is : (trace : Trace) (p : StoreState) → IsStateOf trace p → p.active ≡ table (after_all opened trace)
table_is trace p at = ap (λ (q : StoreState). q.active) at.here

free_idle : (p : StoreState) → IsFree p → IsIdle p
free_idle p free = table_is free.trace p free.at
    ∙ ap (λ txs. map (active_of (after_all opened free.trace).notes (after_all opened free.trace).marks) txs) free.none

free_content : Sounds → (p : StoreState) (free : IsFree p) → content p.entries ≡ (state free.trace).committed
free_content sounds p free =
    content_is free.trace p free.at (sounds free.trace p free.at)
    ∙ ap (λ txs. overlay_in (record (state free.trace) { active = txs })) free.none

-- the maps of an idle store are one
pub idle_map : (p : StoreState) → IsIdle p → committed_map p ≡ draft_map p
idle_map p idle = ap (λ xs. content (taken_back (notes_of xs) p.entries)) idle

-- an idle store is at rest
pub idle_rest : (p : StoreState) → IsIdle p → at_rest p ≡ p
idle_rest p idle = ap (λ xs. rested xs p) idle

-- what is due before the lock, of an active transaction
abbrev early : Bool → Bool → Bool → Bool → Option Refusal
early many unordered unbounded full =
    cond many (Some TooManyOps)
    (cond unordered (Some NotRising)
    (cond unbounded (Some BadLimit)
    (cond full (Some TooManyRuns)
    None)))

out_of_room : (why : Refusal) (r : Reply) → r ≡ Refused why → is_out_of_room (Refused why) ≡ true →
    is_out_of_room r ≡ false → ⊥
out_of_room why r is out kept_ops = true≢false (sym out ∙ ap is_out_of_room (sym is) ∙ kept_ops)

-- where there is room, it is due as it is where no run is one too many
settled : (a b c d : Bool) (late : Option Refusal) (r told : Reply) →
    MatchOption (or_else (early a b c d) late) ((r ≡ told) ⊎ (r ≡ Refused NoMemory)) (λ why. r ≡ Refused why) →
    is_out_of_room r ≡ false → r ≡ reply_by (or_else (early a b c false) late) told
settled true b c d late r told may room = may
settled false true c d late r told may room = may
settled false false true d late r told may room = may
settled false false false true late r told may room = absurd (out_of_room TooManyRuns r may refl room)
settled false false false false (Some why) r told may room = may
settled false false false false None r told (inl is) room = is
settled false false false false None r told (inr is) room = absurd (out_of_room NoMemory r is refl room)

-- ---- inside a transaction

module _ (p : StoreState) (t : ℕ) (own : List Op) (m : PlainMap) (h : IsInside p t own m) where
  abbrev s : State
  s = state h.trace

  abbrev entry : Active
  entry = active_of (after_all opened h.trace).notes (after_all opened h.trace).marks (s.begun, h.body)

  number_is : s.begun ≡ t
  number_is = sym (same_begun h.trace p h.at) ∙ h.newest

  table_has : p.active ≡ entry ∷ []
  table_has = table_is h.trace p h.at
      ∙ ap (λ txs. map (active_of (after_all opened h.trace).notes (after_all opened h.trace).marks) txs) h.alone

  entry_of : in_table (entry ∷ []) s.begun ≡ entry
  entry_of = ap (λ b. cond b entry (in_table [] s.begun)) (nat_eq_equiv.refl s.begun)

  -- its notes are those that stand first
  own_notes : (in_table p.active t).notes ≡ notes_of p.active
  own_notes =
      ap (λ xs. (in_table xs t).notes) table_has
      ∙ ap (λ n. (in_table (entry ∷ []) n).notes) (sym number_is)
      ∙ ap (λ (x : Active). x.notes) entry_of
      ∙ ap notes_of (sym table_has)

  is_open : is_in p.active t ≡ true
  is_open =
      ap (λ xs. is_in xs t) table_has
      ∙ ap (λ n. is_in (entry ∷ []) n) (sym number_is)
      ∙ ap (λ b. b || false) (nat_eq_equiv.refl s.begun)

  abbrev here : Where
  here = record {
    begun = s.begun;
    commits = s.commits;
    runs = s.runs;
    committed = s.committed;
    own = Some h.body;
    staged = [];
  }

  machine_is : s ≡ machine_at here
  machine_is = λ i. record s { active = h.alone i }

  pub inside_busy : IsIdle p → ⊥
  inside_busy idle = true≢false (sym is_open ∙ ap (λ xs. is_in xs t) idle)

  pub inside_draft : Sounds → draft_map p ≡ left own m
  inside_draft sounds =
      content_is h.trace p h.at (sounds h.trace p h.at)
      ∙ ap overlay_in machine_is
      ∙ (λ i. left (h.answered i) (h.on i))

  pub inside_map : Lifts → Sounds → committed_map p ≡ m
  inside_map lifts sounds =
      let p' = state_after p (Abort t) Aborted in
      let trace' = h.trace ++ (Abort t, Aborted) ∷ [] in
      let at' : IsStateOf trace' p' = lifts h.trace p (Abort t) Aborted h.at is_open in
      let leads : state trace' ≡ next s (Aborts t) =
      ap (λ (x : Store). x.state) (after_one_more h.trace opened (Abort t, Aborted)) in
      let left_over : next s (Aborts t) ≡ machine_at (record here { own = None }) =
      (λ i. next (machine_is i) (Aborts (sym number_is i)))
      ∙ next_aborted s.begun s.commits s.runs s.committed h.body [] in
      ap (λ ns. content (taken_back ns p.entries)) (sym own_notes)
      ∙ content_is trace' p' at' (sounds trace' p' at')
      ∙ ap overlay_in (leads ∙ left_over)
      ∙ h.on

  -- ---- where its abort leads

  rest_is : at_rest p ≡ state_after p (Abort t) Aborted
  rest_is = ap (λ xs. rested xs p) table_has ∙ ap (λ n. state_after p (Abort n) Aborted) h.newest

  none_left : without_tx t p.active ≡ []
  none_left =
      ap (λ xs. without_tx t xs) table_has
      ∙ ap (λ n. without_tx n (entry ∷ [])) (sym number_is)
      ∙ ap (λ b. cond (not b) (entry ∷ []) []) (nat_eq_equiv.refl s.begun)

  pub rest_map : committed_map (at_rest p) ≡ committed_map p
  rest_map =
      ap committed_map rest_is
      ∙ ap (λ xs. content (taken_back (notes_of xs) (taken_back (in_table p.active t).notes p.entries))) none_left
      ∙ ap (λ ns. content (taken_back ns p.entries)) own_notes

  -- ---- its end

  freed : (trace' : Trace) (p' : StoreState) → IsStateOf trace' p' → p'.most_runs ≡ 65535 →
      (state trace').active ≡ [] → IsFree p'
  freed trace' p' at most none = record { trace = trace'; at = at; most = most; none = none }

  pub commits_whole : (p' : StoreState) (reply : Reply) → MayAnswer p (Commit t) reply →
      p' ≡ state_after p (Commit t) reply → Extends p ((Commit t, reply) ∷ []) p' → IsCommitted p p'
  commits_whole p' (Committed c) may is on =
      let g = goes h.trace p p' (Commit t) (Committed c) h.at h.most on in
      let ends : next s (Commits t) ≡ machine_at (record here {
        commits = s.commits + 1;
        committed = left (ops_of h.body) s.committed;
        own = None;
      }) =
      (λ i. next (machine_is i) (Commits (sym number_is i)))
      ∙ next_committed s.begun s.commits s.runs s.committed h.body [] in
      let free = freed (h.trace ++ (Commit t, Committed c) ∷ []) p' g.at g.most
      (ap (λ (x : State). x.active) (g.leads ∙ ends)) in
      record { free = free; idle = free_idle p' free; same = ap (λ (q : StoreState). q.entries) is }
  commits_whole p' (Refused NoSuchTx) may is on = absurd (true≢false (sym is_open ∙ may))
  commits_whole p' _ may is on = absurd may

  pub aborts_whole : (p' : StoreState) (reply : Reply) → MayAnswer p (Abort t) reply →
      p' ≡ state_after p (Abort t) reply → Extends p ((Abort t, reply) ∷ []) p' → IsAborted p p'
  aborts_whole p' Aborted may is on =
      let g = goes h.trace p p' (Abort t) Aborted h.at h.most on in
      let ends : next s (Aborts t) ≡ machine_at (record here { own = None }) =
      (λ i. next (machine_is i) (Aborts (sym number_is i)))
      ∙ next_aborted s.begun s.commits s.runs s.committed h.body [] in
      let free = freed (h.trace ++ (Abort t, Aborted) ∷ []) p' g.at g.most
      (ap (λ (x : State). x.active) (g.leads ∙ ends)) in
      record {
        free = free;
        idle = free_idle p' free;
        back = ap (λ (q : StoreState). q.entries) is ∙ ap (λ ns. taken_back ns p.entries) own_notes;
        rests = is ∙ sym rest_is;
      }
  aborts_whole p' (Refused NoSuchTx) may is on = absurd (true≢false (sym is_open ∙ may))
  aborts_whole p' _ may is on = absurd may

  -- ---- an operation

  abbrev ops : List Op
  ops = ops_of h.body

  abbrev own_answer : Op → Reply
  own_answer op = answer op (left_on ops (fresh s.committed))

  abbrev lock_due : Op → Option Refusal
  lock_due op = lock_refusal None (is_one_too_many (locks_of ops) (lock_of op))

  answer_due : (op : Op) (r : Reply) → MayDo 65535 s t op r → MatchOption (refusal_due (state_at here) ops op)
      ((r ≡ own_answer op) ⊎ (r ≡ Refused NoMemory)) (λ why. r ≡ Refused why)
  answer_due op r may =
      let there : MayDo 65535 (machine_at here) s.begun op r =
      subst (λ (x : State × ℕ). MayDo 65535 x.0 x.1 op r) (λ i. (machine_is i, sym number_is i)) may in
      let seen = subst (λ d. MatchOption (due (is_full 65535 s.runs r) (machine_at here) s.begun op)
      ((r ≡ answer op d) ⊎ (r ≡ Refused NoMemory)) (λ why. r ≡ Refused why))
      (one_view s.begun s.commits s.runs s.committed h.body []) there in
      subst (λ o. MatchOption o ((r ≡ own_answer op) ⊎ (r ≡ Refused NoMemory)) (λ why. r ≡ Refused why))
      (due_is s.begun s.commits s.runs s.committed h.body [] op r) seen

  told_is : (op : Op) (r : Reply) → MayDo 65535 s t op r → is_out_of_room r ≡ false → r ≡ reply_behind own m op
  told_is op r may room =
      let many = nat_le max_ops (length ops) in
      settled many (not (is_orderly op)) (not (is_bounded op)) (may_make_run op && nat_le max_runs s.runs) (lock_due op)
      r (own_answer op) (answer_due op r may) room
      ∙ ap (λ full. reply_by (or_else (early many (not (is_orderly op)) (not (is_bounded op)) full) (lock_due op))
      (own_answer op)) (sym (and-false (may_make_run op)))
      ∙ (λ i. reply_behind (h.answered i) (h.on i) op)

  -- the transaction goes on with this body
  goes_on : (trace' : Trace) (p' : StoreState) (runs : ℕ) (body : List Answered) (own' : List Op) →
      IsStateOf trace' p' → p'.most_runs ≡ 65535 →
      state trace' ≡ machine_at (record here { runs = runs; own = Some body }) → ops_of body ≡ own' →
      IsInside p' t own' m
  goes_on trace' p' runs body own' at most is own_is = record {
    trace = trace';
    body = body;
    at = at;
    most = most;
    newest = same_begun trace' p' at ∙ ap (λ (x : State). x.begun) is ∙ number_is;
    alone = subst (λ (x : State). x.active ≡ (x.begun, body) ∷ []) (sym is) refl;
    answered = own_is;
    on = ap (λ (x : State). x.committed) is ∙ h.on;
  }

  goes_by : (p' : StoreState) (op : Op) (r : Reply) → Goes h.trace (Do t op) r p' → (due : Option Refusal) →
      r ≡ reply_by due (answer op (left_on own (fresh m))) → IsInside p' t (own_by due own op) m
  goes_by p' op r g None is =
      let d = left_on own (fresh m) in
      let counts : effect_of_do t op r ≡ Answers t op r =
      subst (λ x. effect_of_do t op x ≡ Answers t op x) (sym is)
      ((answer_counts (answer op d) (answer_answers op d)).effect t op) in
      goes_on (h.trace ++ (Do t op, r) ∷ []) p' (s.runs + runs_made (left ops s.committed) op r)
      (h.body ++ (op, r) ∷ []) (own ++ op ∷ []) g.at g.most
      (g.leads ∙ ap (next s) counts ∙ (λ i. next (machine_is i) (Answers (sym number_is i) op r))
      ∙ next_did s.begun s.commits s.runs s.committed h.body [] op r)
      (ops_did s.begun s.commits s.runs s.committed h.body [] op r ∙ ap (λ os. os ++ op ∷ []) h.answered)
  goes_by p' op r g (Some why) is =
      goes_on (h.trace ++ (Do t op, r) ∷ []) p' s.runs h.body own g.at g.most
      (g.leads ∙ ap (λ x. next s (effect_of_do t op x)) is ∙ machine_is) h.answered

  pub did : (p' : StoreState) (op : Op) (r : Reply) → Extends p ((Do t op, r) ∷ []) p' →
      is_out_of_room r ≡ false → (r ≡ reply_behind own m op) × IsInside p' t (own_behind own op) m
  did p' op r on room =
      let g = goes h.trace p p' (Do t op) r h.at h.most on in
      let told = told_is op r g.may room in
      (told, goes_by p' op r g (refusal_behind own op) told)

-- ---- its begin

pub idle_free : (p : StoreState) (active : Option ℕ) → IsAlone p active → IsIdle p → IsFree p
idle_free p None h idle = h
idle_free p (Some t) h idle = absurd (inside_busy p t h.0 h.1 h.2 idle)

pub begun_inside : (p p' : StoreState) (t : ℕ) → Sounds → IsFree p → Extends p ((Begin, Begun t) ∷ []) p' →
    IsInside p' t [] (draft_map p)
begun_inside p p' t sounds free on =
    let g = goes free.trace p p' Begin (Begun t) free.at free.most on in
    record {
      trace = free.trace ++ (Begin, Begun t) ∷ [];
      body = [];
      at = g.at;
      most = g.most;
      newest = same_begun (free.trace ++ (Begin, Begun t) ∷ []) p' g.at ∙ ap (λ (x : State). x.begun) g.leads
          ∙ sym g.may.0;
      alone = subst (λ (x : State). x.active ≡ (x.begun, []) ∷ []) (sym g.leads)
          (λ i. free.none i ++ (g.may.0 i, []) ∷ []);
      answered = refl;
      on = ap (λ (x : State). x.committed) g.leads ∙ sym (free_content sounds p free);
    }

pub begin_refused : (p : StoreState) (why : Refusal) → state_after p Begin (Refused why) ≡ p
begin_refused p why = refl

pub opened_free : (p : StoreState) → IsSoundAt [] p → p ≡ empty_state 65535 → IsFree p
opened_free p there is = record {
  trace = [];
  at = there.at;
  most = ap (λ (q : StoreState). q.most_runs) is;
  none = refl;
}

-- ---- one operation more of the active transaction

-- the transaction is the one that is active
pub inside_active : (p : StoreState) (t n : ℕ) (own : List Op) (m : PlainMap) → IsAlone p (Some t) →
    IsInside p n own m →
    IsInside p t own m
inside_active p t n own m h inside = subst (λ k. IsInside p k own m) (sym inside.newest ∙ h.2.newest) inside

-- and it stays so, whatever is answered
pub still_alone : (r : Result Reply OutOfMemory) (p p' : StoreState) (t : ℕ) (op : Op) →
    ((own : List Op) (m : PlainMap) → IsInside p t own m → OnOk r (IsInside p' t (own_behind own op) m)) →
    OnErr r (p' ≡ p) → IsAlone p (Some t) → IsAlone p' (Some t)
still_alone (Ok reply) p p' t op goes same h = (own_behind h.0 op, h.1, goes h.0 h.1 h.2)
still_alone (Err e) p p' t op goes same h = subst (λ q. IsAlone q (Some t)) (sym same) h

pub inside_now : (p : StoreState) (t : ℕ) (own : List Op) (m : PlainMap) → IsInside p t own m → IsInside p p.begun own m
inside_now p t own m inside = subst (λ k. IsInside p k own m) (sym inside.newest) inside

-- ---- a whole list of operations

-- so far all was answered as it is on the map, and the others are still to come
pub record Ran (p : StoreState) (t : ℕ) (m : PlainMap) (told : List Reply) (rest asked : List Op) : Type 0 where
  pub own : List Op
  pub inside : IsInside p t own m
  pub answers : told ++ replies_behind own m rest ≡ replies asked m
  pub keeps : kept_behind own rest ≡ kept_ops asked

pub ran_none : (p : StoreState) (t : ℕ) (m : PlainMap) (asked : List Op) → IsInside p t [] m → Ran p t m [] asked asked
ran_none p t m asked inside = record { own = []; inside = inside; answers = refl; keeps = refl }

pub ran_one_more : (p p' : StoreState) (t : ℕ) (m : PlainMap) (told : List Reply) (op : Op) (rest asked : List Op)
    (reply : Reply) (ran : Ran p t m told (op ∷ rest) asked) → reply ≡ reply_behind ran.own m op →
    IsInside p' t (own_behind ran.own op) m → Ran p' t m (told ++ reply ∷ []) rest asked
ran_one_more p p' t m told op rest asked reply ran is inside = record {
  own = own_behind ran.own op;
  inside = inside;
  answers = append_assoc told (reply ∷ []) (replies_behind (own_behind ran.own op) m rest)
      ∙ ap (λ r. told ++ r ∷ replies_behind (own_behind ran.own op) m rest) is
      ∙ ran.answers;
  keeps = ran.keeps;
}

pub ran_alone : (p : StoreState) (active : Option ℕ) (t : ℕ) (m : PlainMap) (told : List Reply) (rest asked : List Op) →
    active ≡ Some t → Ran p t m told rest asked → IsAlone p active
ran_alone p active t m told rest asked is ran = subst (λ a. IsAlone p a) (sym is) (ran.own, m, ran.inside)

pub ran_inside : (p : StoreState) (t : ℕ) (m : PlainMap) (told : List Reply) (asked : List Op) →
    Ran p t m told [] asked → IsInside p p.begun (kept_ops asked) m
ran_inside p t m told asked ran =
    inside_now p t (kept_ops asked) m (subst (λ ops. IsInside p t ops m) ran.keeps ran.inside)

pub ran_whole : Lifts → Sounds → (p : StoreState) (t : ℕ) (m : PlainMap) (told : List Reply) (asked : List Op) →
    Ran p t m told [] asked → (told ≡ replies asked m) × (draft_map p ≡ leaves asked m) × (committed_map p ≡ m)
ran_whole lifts sounds p t m told asked ran = (
  sym (append-nil told) ∙ ran.answers,
  inside_draft p t ran.own m ran.inside sounds ∙ ap (λ own. left own m) ran.keeps,
  inside_map p t ran.own m ran.inside lifts sounds,
)

-- ---- between two transactions

-- a step that does nothing to transactions
pub kept_alone : (p p' : StoreState) (active : Option ℕ) (step : Step) (reply : Reply) → IsAlone p active → IsIdle p →
    effect step reply ≡ Nothing → Extends p ((step, reply) ∷ []) p' → IsAlone p' active
kept_alone p p' None step reply free idle none on =
    let g = goes free.trace p p' step reply free.at free.most on in
    record {
      trace = free.trace ++ (step, reply) ∷ [];
      at = g.at;
      most = g.most;
      none = ap (λ (s : State). s.active) (g.leads ∙ ap (next (state free.trace)) none) ∙ free.none;
    }
kept_alone p p' (Some t) step reply h idle none on = absurd (inside_busy p t h.0 h.1 h.2 idle)

pub kept_map : (p p' : StoreState) → IsIdle p → p'.active ≡ p.active → content p'.entries ≡ content p.entries →
    committed_map p' ≡ committed_map p
kept_map p p' idle active same = idle_map p' (active ∙ idle) ∙ same ∙ sym (idle_map p idle)
