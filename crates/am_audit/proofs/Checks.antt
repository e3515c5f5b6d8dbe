-- Events that are judged as they come.
use Rattle.std.proofs.Common.{◌≡◌, ℕ, ◌+◌, ◌<◌, [], ◌∷◌, ◌++◌, length, get_or, take, sym, ap, ◌∙◌, subst, arith, refl}
use Rattle.std.proofs.Common.{append_assoc, length-append, Bool, true, false, Option, Some, None, ◌≤◌}
use Rattle.std.specs.Prelude.{not}
use Rattle.std.specs.Option.{is_some}
use Rattle.std.proofs.lemmas.Bool.{true≢false}
use Rattle.am_record.specs.Plain.{fresh}
use Rattle.std.proofs.lemmas.List.{take_more}
use Rattle.am_record.specs.declared.step.Step.{Step}
use Rattle.am_record.specs.declared.step.Reply.{Reply}
use Rattle.am_record.specs.Events.{Event}
use Rattle.am_law_serial.specs.Trace.{Trace, effects, committers}
use Rattle.am_law_serial.specs.FormedTraces.{IsFormed, FormedLaws}
use Rattle.am_law_serial.specs.Legal.{IsLegal}
use Rattle.am_law_serial.specs.Machine.{State, start, after_run}
use Rattle.am_audit.specs.declared.fault.Fault.{Fault}
use Rattle.am_audit.specs.declared.fault.Fault.TheVariants.{Wrong, NoMemory}
use Rattle.am_audit_replies.specs.declared.event_fault.EventFault.{EventFault}
use Rattle.am_audit_replies.specs.declared.event_fault.EventFault.TheVariants.{Form, Busy, Answer, NoMemory as Starved}
use Rattle.am_audit.specs.declared.checker.Checker.{Checker}
use Rattle.am_audit.specs.Faults.{IsTrueFault}
use Rattle.am_audit.specs.declared.trace_audit.Audit.{Audit}
use Rattle.am_audit.specs.AuditStates.{IsSoFar, HasJudged}
use Rattle.am_audit.specs.Progress.{answers_at, progress_of, HasChecked, TakesEvent, IsEventFault, fault_of}
use Rattle.am_audit.specs.Progress.{position_told}
use Rattle.am_audit.proofs.Bodies.{first_wrong}
use Rattle.am_audit.proofs.OwnMoments.{own_moment, stands_own, takes_there, flaw_there}
use Rattle.am_audit.proofs.Progresses.{stands_on}
use Rattle.am_audit.proofs.Lifts.{goes_on, is_first}

-- a fault is one of what goes on after it too
pub still_faulty : (most_runs : ℕ) (seen more : Trace) (fault : Fault) → IsTrueFault most_runs seen fault →
    IsTrueFault most_runs (seen ++ more) fault
still_faulty most_runs seen more (Wrong line kind) f = record {
  earlier = f.earlier;
  event = f.event;
  later = f.later ++ more;
  split = ap (λ l. l ++ more) f.split ∙ append_assoc f.earlier (f.event ∷ f.later) more;
  legal = f.legal;
  fault = f.fault;
}
still_faulty most_runs seen more NoMemory f = tt

module _ (laws : (most_runs : ℕ) (trace : Trace) → IsFormed most_runs trace → FormedLaws most_runs trace)
    (seen : Trace) (p : Checker) (fault : Option Fault) where
  abbrev most_runs : ℕ
  most_runs = p.most_runs

  right_so_far : fault ≡ None → IsSoFar fault p seen → IsSoFar None p seen
  right_so_far none h = subst (λ f. IsSoFar f p seen) none h

  flaw_here : (n : ℕ) (step : Step) (reply : Reply) (event_fault : EventFault) → fault ≡ None → IsSoFar fault p seen →
      IsEventFault most_runs (own_moment p n) step reply event_fault → IsEventFault most_runs (progress_of seen) step
      reply event_fault
  flaw_here n step reply Form none h w = flaw_there p (answers_at seen) (after_run start seen) (right_so_far none h).0
      most_runs n step reply Form w
  flaw_here n step reply Busy none h w = flaw_there p (answers_at seen) (after_run start seen) (right_so_far none h).0
      most_runs n step reply Busy w
  flaw_here n step reply (Answer position) none h w =
      let there = flaw_there p (answers_at seen) (after_run start seen) (right_so_far none h).0 most_runs n
      step reply (Answer position) w in
      record { t = there.t; formed = there.formed; commit = there.commit; answer = there.answer }
  flaw_here n step reply Starved none h w = tt

  pub stands_here : (n : ℕ) → fault ≡ None → IsSoFar fault p seen → HasChecked p (own_moment p n)
  stands_here n none h = stands_own p (answers_at seen) (after_run start seen) (right_so_far none h).0 n

  pub goes_wrong : (n : ℕ) (step : Step) (reply : Reply) (q : Checker) (event_fault : EventFault) →
      q.most_runs ≡ most_runs → fault ≡ None →
      IsSoFar fault p seen → n ≡ length seen → IsEventFault most_runs (own_moment p n) step reply event_fault →
      IsSoFar (Some (fault_of n event_fault)) q (seen ++ (step, reply) ∷ [])
  goes_wrong n step reply q event_fault same none h at w =
      subst (λ most. IsTrueFault most (seen ++ (step, reply) ∷ []) (fault_of n event_fault)) (sym same)
      (is_first most_runs (laws most_runs) seen (right_so_far none h).1 (seen ++ (step, reply) ∷ []) step reply [] refl
      n at event_fault (flaw_here n step reply event_fault none h w))

  -- the line that is told is one that was read
  pub is_told : (n : ℕ) (step : Step) (reply : Reply) (event_fault : EventFault) → fault ≡ None → IsSoFar fault p seen →
      n ≡ length seen → IsEventFault most_runs (own_moment p n) step reply event_fault →
      position_told n event_fault ≤ length seen
  is_told n step reply Form none h at w = omega arith
  is_told n step reply Busy none h at w = omega arith
  is_told n step reply (Answer position) none h at w =
      let there = flaw_here n step reply (Answer position) none h w in
      let found = first_wrong seen there.t (after_run start seen).committed (fresh (after_run start seen).committed)
      position refl there.answer in
      let long = ap length found.split ∙ length-append found.earlier _ in
      let line = found.position in
      omega arith
  is_told n step reply Starved none h at w = omega arith

  pub goes_right : (n : ℕ) (step : Step) (reply : Reply) (q : Checker) → q.most_runs ≡ most_runs → fault ≡ None →
      IsSoFar fault p seen →
      n ≡ length seen → TakesEvent most_runs (own_moment p n) step reply q →
      IsSoFar fault q (seen ++ (step, reply) ∷ [])
  goes_right n step reply q same none h at k =
      let right = right_so_far none h in
      let k' : TakesEvent most_runs (progress_of seen) step reply q =
      takes_there p (answers_at seen) (after_run start seen)
      right.0 most_runs (length seen) step reply q (subst (λ m. TakesEvent most_runs (own_moment p m) step reply q) at
      k) in
      subst (λ f. IsSoFar f q (seen ++ (step, reply) ∷ [])) (sym none) (
        stands_on q seen step reply k'.stands,
        subst (λ most. IsLegal most (seen ++ (step, reply) ∷ [])) (sym same)
            (goes_on most_runs (laws most_runs) seen right.1 step reply k'.right),
      )

  pub is_legal : fault ≡ None → IsSoFar fault p seen → IsLegal most_runs seen ×
      (p.commits ≡ length (committers (effects seen)))
  is_legal none h =
      let right : IsSoFar None p seen = subst (λ f. IsSoFar f p seen) none h in
      (right.1, right.0.commits ∙ ap (λ (s : State). s.commits) (sym (laws most_runs seen right.1.formed).state))

pub none_there : {A : Type 0} (o : Option A) (b : Bool) → is_some o ≡ not b → b ≡ true → o ≡ None
none_there None b e f = refl
none_there (Some x) b e f = absurd (true≢false (e ∙ ap not f))

pub some_there : {A : Type 0} (o : Option A) (b : Bool) → is_some o ≡ not b → b ≡ false → o ≡ None → ⊥
some_there o b e f none = true≢false (sym (ap not f) ∙ sym e ∙ ap is_some none)

-- one more event is counted
pub one_more : (most_runs : ℕ) (a b : Audit) (seen : Trace) (step : Step) (reply : Reply) → HasJudged most_runs a seen →
    b.checker.most_runs ≡ a.checker.most_runs → b.seen ≡ a.seen →
    IsSoFar b.fault b.checker (seen ++ (step, reply) ∷ []) →
    HasJudged most_runs (record { checker = b.checker; seen = b.seen + 1; fault = b.fault })
    (seen ++ (step, reply) ∷ [])
one_more most_runs a b seen step reply h most same so_far = record {
  most = most ∙ h.most;
  count = ap (λ n. n + 1) (same ∙ h.count) ∙ sym (length-append seen ((step, reply) ∷ []));
  so_far = so_far;
}

-- events after a fault change nothing
pub stays_wrong : (seen more : Trace) (p : Checker) (fault : Option Fault) → (fault ≡ None → ⊥) →
    IsSoFar fault p seen → IsSoFar fault p (seen ++ more)
stays_wrong seen more p None some h = absurd (some refl)
stays_wrong seen more p (Some fault) some h = still_faulty p.most_runs seen more fault h

pub taken : (trace : Trace) (i : ℕ) (e : Event) → i < length trace → e ≡ get_or trace i e → take i trace ++
    e ∷ [] ≡ take (i + 1) trace
taken trace i e less is = ap (λ x. take i trace ++ x ∷ []) is ∙ sym (take_more trace i e less)

-- the fault of events that were judged
pub told_fault : (most_runs : ℕ) (a : Audit) (seen : Trace) (fault : Fault) → a.fault ≡ Some fault →
    HasJudged most_runs a seen → IsTrueFault most_runs seen fault
told_fault most_runs a seen fault is h = subst (λ n. IsTrueFault n seen fault) h.most
    (subst (λ f. IsSoFar f a.checker seen) is h.so_far)
