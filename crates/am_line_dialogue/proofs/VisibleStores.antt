-- A store that was written with visible keys and values alone tells no others.
use Rattle.std.proofs.Common.{◌≡◌, ◌⊎◌, inl, inr, ℕ, ◌==◌, List, [], ◌∷◌, Bool, true, false, cond, not}
use Rattle.std.proofs.Common.{Option, Some, None, sym, subst}
use Rattle.std.specs.Prelude.{All, MatchOption, MatchBool, nat_le, ◌&&◌}
use Rattle.std.specs.List.{AllByRecursion}
use Rattle.std.proofs.lemmas.Bool.{cond_both}
use Rattle.am_record.specs.OrderedKey.{OrderedKey}
use Rattle.am_record.specs.Interval.{Interval, within}
use Rattle.am_record.specs.Records.{Records}
use Rattle.am_record.specs.ByNumber.{with_changed}
use Rattle.am_record.specs.Plain.{fresh, answer}
use Rattle.am_record.specs.declared.entry.Entry.{Entry}
use Rattle.am_record.specs.declared.step.Op.{Op}
use Rattle.am_record.specs.declared.step.Op.TheVariants as op
use Rattle.am_record.specs.declared.step.Step.{Step}
use Rattle.am_record.specs.declared.step.Step.TheVariants as step
use Rattle.am_record.specs.declared.step.Reply.{Reply}
use Rattle.am_record.specs.declared.step.Reply.TheVariants as reply
use Rattle.am_record.specs.declared.step.Refusal.{Refusal}
use Rattle.am_record.specs.declared.step.Refusal.TheVariants as why
use Rattle.am_law_serial.specs.Trace.{Answered, ops_of, Effect, Begins, Answers, Commits, Aborts, Nothing, effect}
use Rattle.am_record.specs.Refusals.{is_limit}
use Rattle.am_law_serial.specs.Machine.{State, Transaction, body_in, view, is_full, due, extended, next}
use Rattle.am_law_effect.specs.MergeAnswers.{Holders, candidates, AnswersFirst, AnswersCandidates, MergeRight}
use Rattle.am_law_effect.specs.Store.{Store, opened, holder, MayReply, after_step}
use Rattle.am_law_effect.specs.WrittenKeys.{StepWritesKeys, HaveKeys}
use Rattle.am_law_effect.proofs.WrittenKeys.{keys_written}
use Rattle.am_line_text.specs.Keys.{printed_key}
use Rattle.am_line_text.specs.Values.{IsVisible}
use Rattle.am_line_wire.specs.Replies.{IsVisibleRow, TellsVisible}
use Rattle.am_line_wire.specs.Visible.{WritesVisible}
use Rattle.am_line_dialogue.proofs.VisibleMaps.{all_filter, all_append, IsVisibleMap, IsVisibleDraft, empty_visible}
use Rattle.am_line_dialogue.proofs.VisibleMaps.{answer_visible, left_visible}

-- ---- the machine

abbrev IsVisibleBody : List Answered → Type 0
IsVisibleBody body = AllByRecursion (λ (a : Answered). WritesVisible a.0) body

abbrev IsVisibleTransaction : Transaction → Type 0
IsVisibleTransaction x = IsVisibleBody x.1

-- the committed map, and what is active
record IsVisibleState (s : State) : Type 0 where
  committed : IsVisibleMap s.committed
  active : AllByRecursion IsVisibleTransaction s.active

ops_visible : (body : List Answered) → IsVisibleBody body → AllByRecursion WritesVisible (ops_of body)
ops_visible [] h = tt
ops_visible (a ∷ body) h = (h.0, ops_visible body h.1)

either_body : (b : Bool) (x y : List Answered) → IsVisibleBody x → IsVisibleBody y → IsVisibleBody (cond b x y)
either_body true x y h k = h
either_body false x y h k = k

body_visible : (txs : List Transaction) (t : ℕ) → AllByRecursion IsVisibleTransaction txs →
    IsVisibleBody (body_in txs t)
body_visible [] t h = tt
body_visible (x ∷ txs) t h = either_body (x.0 == t) x.1 (body_in txs t) h.0 (body_visible txs t h.1)

view_visible : (s : State) (t : ℕ) → IsVisibleState s → IsVisibleDraft (view s t)
view_visible s t h = left_visible (ops_of (body_in s.active t)) (fresh s.committed)
    (ops_visible (body_in s.active t) (body_visible s.active t h.active)) (h.committed, tt)

extended_visible : (t : ℕ) (done : Answered) (txs : List Transaction) → WritesVisible done.0 →
    AllByRecursion IsVisibleTransaction txs → AllByRecursion IsVisibleTransaction
    (with_changed (λ (x : Transaction). x.0) (extended done) t txs)
extended_visible t done [] w h = tt
extended_visible t done (x ∷ txs) w h = (
  cond_both (x.0 == t) (extended done x) x IsVisibleTransaction
      (λ _. all_append (λ (a : Answered). WritesVisible a.0) x.1 (done ∷ []) h.0 (w, tt)) (λ _. h.0),
  extended_visible t done txs w h.1,
)

abbrev IsVisibleEffect : Effect → Type 0
IsVisibleEffect (Answers t o r) = WritesVisible o
IsVisibleEffect _ = Unit {0}

next_visible : (s : State) (e : Effect) → IsVisibleEffect e → IsVisibleState s → IsVisibleState (next s e)
next_visible s (Begins t) w h = record {
  committed = h.committed;
  active = all_append IsVisibleTransaction s.active ((t, []) ∷ []) h.active (tt, tt);
}
next_visible s (Answers t o r) w h = record {
  committed = h.committed;
  active = extended_visible t (o, r) s.active w h.active;
}
next_visible s (Commits t) w h = record {
  committed = (view_visible s t h).0;
  active = all_filter IsVisibleTransaction (λ (x : Transaction). not (x.0 == t)) s.active h.active;
}
next_visible s (Aborts t) w h = record {
  committed = h.committed;
  active = all_filter IsVisibleTransaction (λ (x : Transaction). not (x.0 == t)) s.active h.active;
}
next_visible s Nothing w h = h

-- ---- the store

abbrev IsVisibleKey : OrderedKey → Type 0
IsVisibleKey k = All IsVisible (printed_key k)

pub record IsVisibleStore (s : Store) : Type 0 where
  state : IsVisibleState s.state
  keys : HaveKeys IsVisibleKey s.entries

pub opened_visible : IsVisibleStore opened
opened_visible = record { state = record { committed = empty_visible; active = tt }; keys = tt }

-- what the step writes is visible
abbrev pub IsVisibleStep : Step → Type 0
IsVisibleStep (step.Do t o) = WritesVisible o
IsVisibleStep _ = Unit {0}

effect_visible : (what : Step) (told : Reply) → IsVisibleStep what → IsVisibleEffect (effect what told)
effect_visible step.Begin (reply.Begun t) w = tt
effect_visible (step.Do t o) (reply.Refused why) w = tt
effect_visible (step.Do t o) _ w = w
effect_visible (step.Commit t) (reply.Committed c) w = tt
effect_visible (step.Abort t) reply.Aborted w = tt
effect_visible _ _ w = tt

keys_of : (rows : Records) → AllByRecursion IsVisibleRow rows →
    AllByRecursion (λ (r : OrderedKey × List ℕ). IsVisibleKey r.0) rows
keys_of [] h = tt
keys_of (row ∷ rows) h = (h.0.0, keys_of rows h.1)

writes_keys : (what : Step) → IsVisibleStep what → StepWritesKeys IsVisibleKey what
writes_keys (step.Do t (op.Insert k v)) w = w.0
writes_keys (step.Do t (op.Set k v)) w = w.0
writes_keys (step.Do t (op.Load rows)) w = keys_of rows w
writes_keys (step.Do t (op.Put rows)) w = keys_of rows w
writes_keys _ w = tt

pub after_visible : (s : Store) (what : Step) (told : Reply) → IsVisibleStep what → IsVisibleStore s →
    IsVisibleStore (after_step s what told)
after_visible s what told w h = record {
  state = next_visible s.state (effect what told) (effect_visible what told w) h.state;
  keys = keys_written IsVisibleKey ((what, told) ∷ []) s (writes_keys what w, tt) h.keys;
}

-- ---- what it tells

-- the refusal that was due, or the answer, or want of memory
do_tells : (s : State) (t : ℕ) (o : Op) (told : Reply) (due : Option Refusal) → WritesVisible o → IsVisibleState s →
    MatchOption due ((told ≡ answer o (view s t)) ⊎ (told ≡ reply.Refused why.NoMemory))
    (λ why. told ≡ reply.Refused why) → TellsVisible told
do_tells s t o told None w h (inl is) = subst TellsVisible (sym is) (answer_visible o (view s t) w (view_visible s t h))
do_tells s t o told None w h (inr is) = subst TellsVisible (sym is) tt
do_tells s t o told (Some why) w h is = subst TellsVisible (sym is) tt

first_tells : (es : List Entry) (held : Holders) (limit : ℕ) (c : Entry) (cs : List Entry) (by : Option ℕ)
    (told : Reply) → IsVisibleKey c.key → AnswersFirst es held limit c cs by told → TellsVisible told
first_tells es held limit c cs (Some h) told key a = subst TellsVisible (sym a) key
first_tells es held limit c cs None (reply.Moved n run) key a = tt
first_tells es held limit c cs None told key a = subst TellsVisible (sym a.0) tt

candidates_tell : (es : List Entry) (held : Holders) (limit : ℕ) (cs : List Entry) (told : Reply) →
    HaveKeys IsVisibleKey cs → AnswersCandidates es held limit cs told → TellsVisible told
candidates_tell es held limit [] told keys a = subst TellsVisible (sym a) tt
candidates_tell es held limit (c ∷ cs) told keys a = first_tells es held limit c (c ∷ cs) (held c.key) told keys.0 a

-- the key of ENDED is that of an entry
merge_tells : (es : List Entry) (wishes : List Interval) (held : Holders) (limit : ℕ) (told : Reply) →
    HaveKeys IsVisibleKey es → MergeRight es wishes held limit told → TellsVisible told
merge_tells es [] held limit told keys a = subst TellsVisible (sym a) tt
merge_tells es (wish ∷ wishes) held limit told keys a =
    candidates_tell es held limit (candidates es wish) told
    (all_filter (λ (e : Entry). IsVisibleKey e.key) (λ (e : Entry). nat_le 1 e.part && within wish e.key) es keys) a

within_limit : (b : Bool) (right : Type 0) (told : Reply) → (right → TellsVisible told) →
    MatchBool b right (told ≡ reply.Refused why.BadLimit) → TellsVisible told
within_limit true right told tells a = tells a
within_limit false right told tells a = subst TellsVisible (sym a) tt

pub tells_visible : (most_runs : ℕ) (s : Store) (what : Step) (told : Reply) → IsVisibleStep what →
    IsVisibleStore s → MayReply most_runs s what told → TellsVisible told
tells_visible most_runs s step.Begin (reply.Begun t) w h may = tt
tells_visible most_runs s step.Begin (reply.Refused why) w h may = tt
tells_visible most_runs s (step.Do t o) told w h may = do_tells s.state t o told
    (due (is_full most_runs s.state.runs told) s.state t o) w h.state may
tells_visible most_runs s (step.Commit t) (reply.Committed c) w h may = tt
tells_visible most_runs s (step.Commit t) (reply.Refused why) w h may = tt
tells_visible most_runs s (step.Abort t) reply.Aborted w h may = tt
tells_visible most_runs s (step.Abort t) (reply.Refused why) w h may = tt
tells_visible most_runs s (step.Merge limit) told w h may =
    within_limit (is_limit limit) (MergeRight s.entries s.wishes (holder s.state.active) limit told) told
    (merge_tells s.entries s.wishes (holder s.state.active) limit told h.keys) may
tells_visible most_runs s (step.Clean range limit) told w h may = within_limit (is_limit limit) _ told
    (λ a. subst TellsVisible (sym a) tt) may
tells_visible most_runs s _ _ w h may = absurd may
