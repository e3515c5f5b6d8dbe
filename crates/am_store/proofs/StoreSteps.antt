-- Where a store stands after its steps.
use Rattle.std.proofs.Common.{◌≡◌, ◌++◌, ℕ, List, [], ◌∷◌, length, refl, sym, ap, ◌∙◌, subst, arith, append_assoc}
use Rattle.std.proofs.Common.{length-append}
use Rattle.std.proofs.lemmas.List.{append-nil}
use Rattle.am_record.specs.declared.step.Refusal.{Refusal}
use Rattle.am_record.specs.declared.step.Step.{Step}
use Rattle.am_record.specs.declared.step.Step.TheVariants.{Do, Merge}
use Rattle.am_record.specs.declared.step.Reply.{Reply}
use Rattle.am_record.specs.declared.step.Reply.TheVariants.{Refused}
use Rattle.am_law_serial.specs.Trace.{Trace}
use Rattle.am_law_sound.specs.Right.{IsSoundStore}
use Rattle.am_law_sound.specs.StoreState.{StoreState, MayAnswer, state_after, empty_state}
use Rattle.am_law_sound.specs.StateOf.{IsStateOf, events}
use Rattle.am_store.specs.StoreSteps.{IsSoundAt, Extends, IsWithin, IsOwed, TakesEach, HasRun}
use Rattle.am_store.proofs.StepsKeep.{most_kept, refused_stays, within_do, within_merge}

abbrev pub Lifts : Type 0
Lifts = (trace : Trace) (p : StoreState) (step : Step) (reply : Reply) → IsStateOf trace p → MayAnswer p step reply →
    IsStateOf (trace ++ (step, reply) ∷ []) (state_after p step reply)

abbrev pub Sounds : Type 0
Sounds = (trace : Trace) (p : StoreState) → IsStateOf trace p → IsSoundStore p.most_runs trace

pub goes : (p p' : StoreState) (step : Step) (reply : Reply) → Lifts → Sounds → MayAnswer p step reply →
    p' ≡ state_after p step reply → Extends p ((step, reply) ∷ []) p'
goes p p' step reply lift sound says e = record {
  most = ap (λ (q : StoreState). q.most_runs) e ∙ most_kept p step reply;
  on = λ trace at.
      let next : IsStateOf (trace ++ (step, reply) ∷ []) p' =
      subst (λ (q : StoreState). IsStateOf (trace ++ (step, reply) ∷ []) q) (sym e)
      (lift trace p step reply at says) in
      record { at = next; sound = sound (trace ++ (step, reply) ∷ []) p' next };
}

pub stays : (p p' : StoreState) (step : Step) (reply : Reply) → p' ≡ state_after p step reply → (why : Refusal) →
    reply ≡ Refused why → p' ≡ p
stays p p' step reply e why is = e ∙ ap (state_after p step) is ∙ refused_stays p step why

pub within : (p : StoreState) (step : Step) (reply : Reply) → MayAnswer p step reply → IsWithin step reply
within p (Do t op) reply says = within_do p t op reply says
within p (Merge limit) reply says = within_merge p limit reply says
within p step reply says = tt

-- ---- steps one after another

pub goes_nowhere : (p : StoreState) → Sounds → Extends p [] p
goes_nowhere p sound = record {
  most = refl;
  on = λ trace at. let here : IsStateOf (trace ++ []) p = subst
      (λ (t : Trace). IsStateOf t p) (sym (append-nil trace)) at in
      record { at = here; sound = sound (trace ++ []) p here };
}

pub goes_further : (p q r : StoreState) (more last : Trace) → Extends p more q → Extends q last r →
    Extends p (more ++ last) r
goes_further p q r more last a b = record {
  most = b.most ∙ a.most;
  on = λ trace at. subst (λ (t : Trace). IsSoundAt t r)
      (append_assoc trace more last) (b.on (trace ++ more) (a.on trace at).at);
}

pub events-push : (steps : List Step) (replies : List Reply) (step : Step) (reply : Reply) →
    length steps ≡ length replies → events (steps ++ step ∷ []) (replies ++ reply ∷ []) ≡ events steps replies ++
    (step, reply) ∷ []
events-push [] [] step reply h = refl
events-push [] (r ∷ replies) step reply h = absurd (omega arith)
events-push (s ∷ steps) [] step reply h = absurd (omega arith)
events-push (s ∷ steps) (r ∷ replies) step reply h = let h' : length steps ≡ length replies = omega arith in
    ap (λ (es : Trace). (s, r) ∷ es) (events-push steps replies step reply h')

pub stands_opened : (most_runs : ℕ) (p : StoreState) → IsStateOf [] (empty_state most_runs) → Sounds →
    p ≡ empty_state most_runs → IsSoundAt [] p
stands_opened most_runs p at sound is = let here : IsStateOf [] p = subst (λ (q : StoreState). IsStateOf [] q) (sym is)
    at in
    record { at = here; sound = sound [] p here }

-- ---- what each step owes

pub takes_one_more : (p q r : StoreState) (more : Trace) (step : Step) (reply : Reply) → TakesEach p more q →
    IsOwed q step reply r → TakesEach p (more ++ (step, reply) ∷ []) r
takes_one_more p q r [] step reply is owed = (r, subst (λ (x : StoreState). IsOwed x step reply r) is owed, refl)
takes_one_more p q r (e ∷ more) step reply has owed =
    (has.0, has.1, takes_one_more has.0 q r more step reply has.2 owed)

-- ---- a run

pub run_starts : (p : StoreState) (before state_after : List Reply) → Sounds → state_after ≡ before →
    HasRun p [] before p state_after
run_starts p before state_after sound e = record {
  replies = [];
  appended = e ∙ sym (append-nil before);
  each = refl;
  takes = refl;
  goes = goes_nowhere p sound;
}

pub run_goes_on : (p q r : StoreState) (steps : List Step) (before state_after after' : List Reply) (step : Step)
    (reply : Reply) → HasRun p steps before q state_after → Extends q ((step, reply) ∷ []) r → IsOwed q step reply r
    → after' ≡ state_after ++ reply ∷ [] → HasRun p (steps ++ step ∷ []) before r after'
run_goes_on p q r steps before state_after after' step reply has goes owed e = record {
  replies = has.replies ++ reply ∷ [];
  appended = e ∙ ap (λ (rs : List Reply). rs ++ reply ∷ []) has.appended ∙ append_assoc before has.replies (reply ∷ []);
  each = omega (arith, length-append has.replies (reply ∷ []), length-append steps (step ∷ []), has.each);
  takes = subst (λ (t : Trace). TakesEach p t r) (sym (events-push steps has.replies step reply (sym has.each)))
      (takes_one_more p q r (events steps has.replies) step reply has.takes owed);
  goes = subst (λ (t : Trace). Extends p t r) (sym (events-push steps has.replies step reply (sym has.each)))
      (goes_further p q r (events steps has.replies) ((step, reply) ∷ []) has.goes goes);
}
