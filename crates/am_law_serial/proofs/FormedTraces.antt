-- What a formed trace makes, whether or not its answers are right.
use Rattle.std.proofs.Common.{◌≡◌, ◌≢◌, ℕ, ◌+◌, ◌<◌, List, [], ◌∷◌, ◌++◌, length, map, Bool, true, false, refl, sym, ap}
use Rattle.std.proofs.Common.{◌∙◌, subst, ⊎_elim, Option, Some, None, arith, append_assoc, length-append}
use Rattle.std.specs.Prelude.{◌==◌, ◌↔◌}
use Rattle.std.specs.FinMap.{empty}
use Rattle.std.proofs.lemmas.Bool.{both_ways, cond-false, false_from_ne_true, ne_eqb}
use Rattle.std.proofs.lemmas.List.{append-nil, map-append}
use Rattle.am_record.specs.declared.step.Refusal.{Refusal}
use Rattle.am_record.specs.declared.step.Op.{Op}
use Rattle.am_record.specs.declared.step.Step.{Step}
use Rattle.am_record.specs.declared.step.Step.TheVariants.{Begin, Do, Commit, Abort}
use Rattle.am_record.specs.declared.step.Reply.{Reply}
use Rattle.am_record.specs.declared.step.Reply.TheVariants.{Begun, Committed, Aborted, Refused}
use Rattle.am_record.specs.Plain.{PlainMap, left}
use Rattle.am_record.specs.Asks.{lock_of}
use Rattle.am_record.specs.Events.{Event}
use Rattle.am_law_serial.specs.Trace.{Trace, Answered, Effect, Begins, Answers, Commits, Aborts, Nothing, effect}
use Rattle.am_law_serial.specs.Trace.{effect_of_do, effects, ops_of, left_by_bodies, IsSerial, IsAnsweredAlone}
use Rattle.am_law_serial.specs.Trace.{AreAnsweredInTurn}
use Rattle.am_record.specs.Refusals.{is_one_too_many}
use Rattle.am_law_serial.specs.Machine.{State, start, is_full, due_early, locks_in, next, after_run, state_at}
use Rattle.am_law_serial.specs.Sound.{FormedAt, FormedDo, EachEvent}
use Rattle.am_law_serial.specs.FormedTraces.{IsFormed, IsNextInOrder, FormedLaws}
use Rattle.am_law_serial.proofs.Views.{View, view_of, view_of-push, push, among, active_in, active_parts, committed_in}
use Rattle.am_law_serial.proofs.Views.{state_of, is_open-with_body, body_in-with_body, among_push, among_push_old}
use Rattle.am_law_serial.proofs.Views.{among_push_last, among_push_none, same_bodies}
use Rattle.am_law_serial.proofs.Serial.{IsRisingFrom, IsRisingFrom-push, by_contradiction, none}
use Rattle.am_law_serial.proofs.Runs.{made_by, same_state, begun_active, ended_active, extended-with_body}
use Rattle.am_law_serial.proofs.Runs.{view-state_of}
use Rattle.am_law_serial.proofs.Sound.{active_early, blocker_is_least, least_is_blocker}

-- what holds of the numbers of a formed trace
record Numbered (v : View) : Type 0 where
  fresh : (t : ℕ) → length v.begun < t → (among v.begun t ≡ false) × (among v.ended t ≡ false) × (v.body t ≡ [])
  rising : IsRisingFrom 0 v.begun
  closed : (t : ℕ) → among v.committers t ≡ true → among v.ended t ≡ true

abbrev Fits : View → Effect → Type 0
Fits v (Begins t) = t ≡ length v.begun + 1
Fits v (Answers t op reply) = among (active_in v) t ≡ true
Fits v (Commits t) = among (active_in v) t ≡ true
Fits v (Aborts t) = among (active_in v) t ≡ true
Fits v Nothing = Unit {0}

not_committed : (v : View) → Numbered v → (t : ℕ) → among (active_in v) t ≡ true → among v.committers t ≡ false
not_committed v num t on = false_from_ne_true (among v.committers t)
    (λ e. both_ways (among v.ended t) (active_parts v t on).1 (num.closed t e))

-- ---- one more event

ended_fresh : (v : View) → Numbered v → (t0 : ℕ) → among (active_in v) t0 ≡ true → (t : ℕ) → length v.begun < t →
    (among v.begun t ≡ false) × (among (v.ended ++ t0 ∷ []) t ≡ false) × (v.body t ≡ [])
ended_fresh v num t0 on t h =
    let was = num.fresh t h in (
      was.0,
      among_push_none v.ended t0 t was.1 (λ e. both_ways (among v.begun t) was.0
          (subst (λ x. among v.begun x ≡ true) (sym e) (active_parts v t0 on).0)),
      was.2,
    )

not_this : (v : View) → Numbered v → (t0 t : ℕ) → among (active_in v) t0 ≡ true → length v.begun < t → t0 ≢ t
not_this v num t0 t on above e = both_ways (among v.begun t) (num.fresh t above).0
    (subst (λ u. among v.begun u ≡ true) e (active_parts v t0 on).0)

push_numbered : (v : View) (e : Effect) → Numbered v → Fits v e → Numbered (push v e)
push_numbered v (Begins t0) num new = record {
  fresh = λ t h.
      let longer = length-append v.begun (t0 ∷ []) in
      let above : length v.begun < t = omega arith in
      let apart : t ≢ t0 = λ e. let no : ⊥ = omega arith in no in
      (among_push_none v.begun t0 t (num.fresh t above).0 apart, (num.fresh t above).1, (num.fresh t above).2);
  rising = IsRisingFrom-push 0 v.begun t0 num.rising (omega arith) (λ u h. by_contradiction u t0 (λ le.
      let above : length v.begun < u = omega arith in both_ways (among v.begun u) (num.fresh u above).0 h));
  closed = num.closed;
}
push_numbered v (Answers t0 op reply) num on = record {
  fresh = λ t h. (
    (num.fresh t h).0,
    (num.fresh t h).1,
    cond-false (t0 == t) (v.body t ++ (op, reply) ∷ []) (v.body t) (ne_eqb t0 t (not_this v num t0 t on h)) ∙
        (num.fresh t h).2,
  );
  rising = num.rising;
  closed = num.closed;
}
push_numbered v (Commits t0) num on = record {
  fresh = ended_fresh v num t0 on;
  rising = num.rising;
  closed = λ t h. ⊎_elim (λ old. among_push_old v.ended t0 t (num.closed t old))
      (λ e. subst (λ x. among (v.ended ++ t0 ∷ []) x ≡ true) (sym e) (among_push_last v.ended t0))
      (among_push v.committers t0 t h);
}
push_numbered v (Aborts t0) num on = record {
  fresh = ended_fresh v num t0 on;
  rising = num.rising;
  closed = λ t h. among_push_old v.ended t0 t (num.closed t h);
}
push_numbered v Nothing num on = num

left_by_push : (bodies : List (List Answered)) (b : List Answered) (m : PlainMap) →
    left_by_bodies (bodies ++ b ∷ []) m ≡ left (ops_of b) (left_by_bodies bodies m)
left_by_push [] b m = refl
left_by_push (c ∷ bodies) b m = left_by_push bodies b (left (ops_of c) m)

commit_leaves : (v : View) (t0 : ℕ) → committed_in (push v (Commits t0)) ≡ left (ops_of (v.body t0)) (committed_in v)
commit_leaves v t0 = ap (λ bodies. left_by_bodies bodies empty) (map-append v.body v.committers (t0 ∷ [])) ∙
    left_by_push (map v.body v.committers) (v.body t0) empty

state_pushed : (v : View) (e : Effect) → Numbered v → Fits v e → state_of (push v e) ≡ next (state_of v) e
state_pushed v (Begins t) num new =
    let above : length v.begun < t = omega arith in
    let fresh = num.fresh t above in
    same_state _ _ _ _ _ _ _ _ _ _ (length-append v.begun (t ∷ [])) refl refl refl (begun_active v t fresh.1 fresh.2)
state_pushed v (Answers t op reply) num on =
    same_state _ _ _ _ _ _ _ _ _ _ refl refl (made_by v t op reply on)
    (ap (λ bodies. left_by_bodies bodies empty) (same_bodies v t (op, reply) v.committers (not_committed v num t on)))
    (sym (extended-with_body t (op, reply) v.body (active_in v)))
state_pushed v (Commits t) num on =
    same_state _ _ _ _ _ _ _ _ _ _ refl (length-append v.committers (t ∷ [])) refl
    (commit_leaves v t ∙ sym (ap (λ d. d.map) (view-state_of v t on))) (ended_active v t)
state_pushed v (Aborts t) num on =
    same_state _ _ _ _ _ _ _ _ _ _ refl refl refl refl (ended_active v t)
state_pushed v Nothing num on = refl

-- ---- a formed event fits

fits_answer : (v : View) (t : ℕ) (op : Op) (reply : Reply) → among (active_in v) t ≡ true →
    Fits v (effect_of_do t op reply)
fits_answer v t op (Refused why) on = tt
fits_answer v t op _ on = on

fits_do : (full : Bool) (es : List Effect) (t : ℕ) (op : Op) (reply : Reply) (early : Option Refusal) →
    due_early full (state_at es) t op ≡ early → FormedDo early
    (is_one_too_many (locks_in (state_at es).active t) (lock_of op))
    op reply → Fits (view_of es) (effect_of_do t op reply)
fits_do full es t op reply (Some why) is f = subst (λ r. Fits (view_of es) (effect_of_do t op r)) (sym f) tt
fits_do full es t op reply None is f = fits_answer (view_of es) t op reply (active_early full es t op is)

fits : (most_runs : ℕ) (es : List Effect) (step : Step) (reply : Reply) → FormedAt most_runs es step reply →
    Fits (view_of es) (effect step reply)
fits most_runs es Begin (Begun t) h = h.0
fits most_runs es (Do t op) reply h = fits_do (is_full most_runs (state_at es).runs reply) es t op reply
    (due_early (is_full most_runs (state_at es).runs reply) (state_at es) t op) refl h
fits most_runs es (Commit t) (Committed c) h = sym (is_open-with_body (view_of es).body (active_in (view_of es)) t) ∙
    h.0
fits most_runs es (Abort t) Aborted h = sym (is_open-with_body (view_of es).body (active_in (view_of es)) t) ∙ h
fits most_runs es _ _ h = tt

-- ---- whole traces

record Follows (es : List Effect) (s : State) : Type 0 where
  kept : Numbered (view_of es)
  is : s ≡ state_of (view_of es)

step_follows : (most_runs : ℕ) (es : List Effect) (s : State) (e : Event) → Follows es s →
    FormedAt most_runs es e.0 e.1 →
    Follows (es ++ effect e.0 e.1 ∷ []) (next s (effect e.0 e.1))
step_follows most_runs es s e f formed =
    let v = view_of es in
    let change = effect e.0 e.1 in
    let fit = fits most_runs es e.0 e.1 formed in
    record {
      kept = subst Numbered (sym (view_of-push es change)) (push_numbered v change f.kept fit);
      is = ap (λ x. next x change) f.is ∙ sym (state_pushed v change f.kept fit) ∙
          ap state_of (sym (view_of-push es change));
    }

trace_follows : (most_runs : ℕ) (trace : Trace) (es : List Effect) (s : State) → Follows es s →
    EachEvent (FormedAt most_runs) es trace → Follows (es ++ effects trace) (after_run s trace)
trace_follows most_runs [] es s f r = subst (λ l. Follows l s) (sym (append-nil es)) f
trace_follows most_runs (e ∷ trace) es s f r =
    let change = effect e.0 e.1 in
    subst (λ l. Follows l (after_run (next s change) trace)) (append_assoc es (change ∷ []) (effects trace))
    (trace_follows most_runs trace (es ++ change ∷ []) (next s change) (step_follows most_runs es s e f r.0) r.1)

none_numbered : Numbered none
none_numbered = record { fresh = λ t h. (refl, refl, refl); rising = tt; closed = λ t h. absurd (cc) }

-- ---- the order of commit

abbrev SerialIn : View → Type 0
SerialIn v = AreAnsweredInTurn (map v.body v.committers) empty

last_alone : (bodies : List (List Answered)) (b : List Answered) (m : PlainMap) → AreAnsweredInTurn (bodies ++ b ∷ [])
    m → IsAnsweredAlone b (left_by_bodies bodies m)
last_alone [] b m h = h.0
last_alone (c ∷ bodies) b m h = last_alone bodies b (left (ops_of c) m) h.1

one_more_alone : (bodies : List (List Answered)) (b : List Answered) (m : PlainMap) → AreAnsweredInTurn bodies m →
    IsAnsweredAlone b (left_by_bodies bodies m) → AreAnsweredInTurn (bodies ++ b ∷ []) m
one_more_alone [] b m h k = (k, tt)
one_more_alone (c ∷ bodies) b m h k = (h.0, one_more_alone bodies b (left (ops_of c) m) h.1 k)

abbrev NextIn : View → Effect → Type 0
NextIn v (Commits t) = IsAnsweredAlone (v.body t) (committed_in v)
NextIn v e = Unit {0}

serial_in : (v : View) (e : Effect) → Numbered v → Fits v e → SerialIn v → SerialIn (push v e) ↔ NextIn v e
serial_in v (Begins t) num fit serial = (λ _. tt, λ _. serial)
serial_in v (Answers t op reply) num fit serial = (
  λ _. tt,
  λ _. subst (λ bodies. AreAnsweredInTurn bodies empty)
      (sym (same_bodies v t (op, reply) v.committers (not_committed v num t fit))) serial,
)
serial_in v (Commits t) num fit serial =
    let bodies = map-append v.body v.committers (t ∷ []) in (
      λ h. last_alone (map v.body v.committers) (v.body t) empty (subst (λ bs. AreAnsweredInTurn bs empty) bodies h),
      λ h. subst (λ bs. AreAnsweredInTurn bs empty) (sym bodies)
          (one_more_alone (map v.body v.committers) (v.body t) empty serial h),
    )
serial_in v (Aborts t) num fit serial = (λ _. tt, λ _. serial)
serial_in v Nothing num fit serial = (λ _. tt, λ _. serial)

next_in : (es : List Effect) (e : Effect) → NextIn (view_of es) e ≡ IsNextInOrder es e
next_in es (Begins t) = refl
next_in es (Answers t op reply) = refl
next_in es (Commits t) = refl
next_in es (Aborts t) = refl
next_in es Nothing = refl

serial_law : (es : List Effect) (e : Effect) → Numbered (view_of es) → Fits (view_of es) e → IsSerial es →
    IsSerial (es ++ e ∷ []) ↔ IsNextInOrder es e
serial_law es e num fit serial =
    subst (λ N. IsSerial (es ++ e ∷ []) ↔ N) (next_in es e)
    (subst (λ v. SerialIn v ↔ NextIn (view_of es) e) (sym (view_of-push es e))
    (serial_in (view_of es) e num fit serial))

pub formed_laws : (most_runs : ℕ) (trace : Trace) → IsFormed most_runs trace → FormedLaws most_runs trace
formed_laws most_runs trace formed =
    let f = trace_follows most_runs trace [] start (record { kept = none_numbered; is = refl }) formed in
    let es = effects trace in
    record {
      state = sym f.is;
      bodies = λ t on. body_in-with_body (view_of es).body (active_in (view_of es)) t
          (sym (is_open-with_body (view_of es).body (active_in (view_of es)) t) ∙ on);
      least = λ t op h. (least_is_blocker es f.kept.rising t op h, blocker_is_least es f.kept.rising t op h);
      serial = λ step reply here serial. serial_law es (effect step reply) f.kept (fits most_runs es step reply here)
          serial;
    }
