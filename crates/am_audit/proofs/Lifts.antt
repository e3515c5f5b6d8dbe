-- What is right or wrong by the machine's state is so of the trace.
use Rattle.std.proofs.Common.{◌≡◌, ℕ, ◌+◌, List, [], ◌∷◌, ◌++◌, length, true, refl, sym, ap, ◌∙◌, subst}
use Rattle.am_record.specs.Plain.{PlainMap, fresh}
use Rattle.am_record.specs.declared.step.Step.{Step}
use Rattle.am_record.specs.declared.step.Step.TheVariants.{Begin, Do, Commit, Abort}
use Rattle.am_record.specs.declared.step.Reply.{Reply}
use Rattle.am_record.specs.declared.step.Reply.TheVariants.{Begun, Committed, Aborted, Refused}
use Rattle.am_law_serial.specs.Trace.{Trace, Answered, Effect, Begins, Answers, Commits, Aborts, Nothing, effect}
use Rattle.am_law_serial.specs.Trace.{effects}
use Rattle.am_law_serial.specs.Trace.{committed, IsSerial, IsAnsweredAlone}
use Rattle.am_law_serial.specs.Machine.{State, start, after_run, is_open, state_at}
use Rattle.am_law_serial.specs.Sound.{FormedAt, BusyRightAt}
use Rattle.am_law_serial.specs.FormedTraces.{IsFormed, IsNextInOrder, FormedLaws}
use Rattle.am_audit_replies.specs.declared.event_fault.EventFault.{EventFault}
use Rattle.am_audit_replies.specs.declared.event_fault.EventFault.TheVariants.{Form, Busy, Answer, NoMemory}
use Rattle.am_law_serial.specs.Legal.{IsLegal}
use Rattle.am_audit.specs.Faults.{EarlyRightAt, IsMisformed, IsWronglyBusy, IsFirstWrongAnswer, CommitsWrongly}
use Rattle.am_audit.specs.Faults.{IsTrueFault}
use Rattle.am_audit.specs.Progress.{FormedIn, EarlyIn, BusyIn, NextIn, IsRightIn, IsMisformedIn, IsWronglyBusyIn}
use Rattle.am_audit.specs.Progress.{CommitsWronglyIn, progress_of, IsEventFault, fault_of}
use Rattle.am_audit.proofs.Bodies.{first_wrong}
use Rattle.am_audit.proofs.Moments.{one_more_event, one_more_moment, last_moment}

-- ---- the same words

to_formed : (most_runs : ℕ) (es : List Effect) (step : Step) (reply : Reply) → FormedIn most_runs (state_at es) step
    reply →
    FormedAt most_runs es step reply
to_formed most_runs es (Do t op) reply h = h
to_formed most_runs es step reply h = h

from_formed : (most_runs : ℕ) (es : List Effect) (step : Step) (reply : Reply) → FormedAt most_runs es step reply →
    FormedIn most_runs (state_at es) step reply
from_formed most_runs es (Do t op) reply h = h
from_formed most_runs es step reply h = h

to_early : (most_runs : ℕ) (es : List Effect) (step : Step) (reply : Reply) → EarlyIn most_runs (state_at es) step
    reply →
    EarlyRightAt most_runs es step reply
to_early most_runs es (Do t op) reply h = h
to_early most_runs es _ reply h = tt

from_early : (most_runs : ℕ) (es : List Effect) (step : Step) (reply : Reply) → EarlyRightAt most_runs es step reply →
    EarlyIn most_runs (state_at es) step reply
from_early most_runs es (Do t op) reply h = h
from_early most_runs es _ reply h = tt

module _ (most_runs : ℕ) (trace : Trace) (laws : FormedLaws most_runs trace) where
  abbrev es : List Effect
  es = effects trace

  to_busy : (step : Step) (reply : Reply) → BusyIn most_runs (state_at es) step reply →
      BusyRightAt most_runs es step reply
  to_busy (Do t op) reply b = λ h. (
    λ e. let both = (b h).0 e in (both.0, (laws.least t op h).1 both.1),
    λ both. (b h).1 (both.0, (laws.least t op h).0 both.1),
  )
  to_busy Begin reply b = tt
  to_busy step reply b = tt

  from_busy : (step : Step) (reply : Reply) → BusyRightAt most_runs es step reply → BusyIn most_runs (state_at es) step
      reply
  from_busy (Do t op) reply b = λ h. (
    λ e. let both = (b h).0 e in (both.0, (laws.least t op h).0 both.1),
    λ both. (b h).1 (both.0, (laws.least t op h).1 both.1),
  )
  from_busy Begin reply b = tt
  from_busy step reply b = tt

-- a formed commit is one of an active transaction
pub commit_open : (most_runs : ℕ) (s : State) (step : Step) (reply : Reply) (t : ℕ) → effect step reply ≡ Commits t →
    FormedIn most_runs s step reply → is_open s.active t ≡ true
commit_open most_runs s (Commit u) (Committed c) t e f = let same : u ≡ t = cc in ap (is_open s.active) (sym same) ∙ f.0
commit_open most_runs s (Do u op) (Refused why) t e f = absurd (cc)
commit_open most_runs s (Do u op) reply t e f = absurd (cc)
commit_open most_runs s Begin (Begun u) t e f = absurd (cc)
commit_open most_runs s (Abort u) Aborted t e f = absurd (cc)
commit_open most_runs s _ _ t e f = absurd (cc)

module _ (most_runs : ℕ) (laws : (trace : Trace) → IsFormed most_runs trace → FormedLaws most_runs trace)
    (seen : Trace) (legal : IsLegal most_runs seen) where
  abbrev here : FormedLaws most_runs seen
  here = laws seen legal.formed

  abbrev s : State
  s = after_run start seen

  state : state_at (effects seen) ≡ s
  state = here.state

  formed_here : (step : Step) (reply : Reply) → FormedIn most_runs s step reply → FormedAt most_runs (effects seen) step
      reply
  formed_here step reply f = to_formed most_runs (effects seen) step reply
      (subst (λ x. FormedIn most_runs x step reply) (sym state) f)

  formed_there : (step : Step) (reply : Reply) → FormedAt most_runs (effects seen) step reply →
      FormedIn most_runs s step reply
  formed_there step reply f = subst (λ x. FormedIn most_runs x step reply) state
      (from_formed most_runs (effects seen) step reply f)

  busy_here : (step : Step) (reply : Reply) → BusyIn most_runs s step reply → BusyRightAt most_runs (effects seen) step
      reply
  busy_here step reply b = to_busy most_runs seen here step reply
      (subst (λ x. BusyIn most_runs x step reply) (sym state) b)

  busy_there : (step : Step) (reply : Reply) → BusyRightAt most_runs (effects seen) step reply →
      BusyIn most_runs s step reply
  busy_there step reply b = subst (λ x. BusyIn most_runs x step reply) state
      (from_busy most_runs seen here step reply b)

  early_here : (step : Step) (reply : Reply) → EarlyIn most_runs s step reply → EarlyRightAt most_runs (effects seen)
      step reply
  early_here step reply e = to_early most_runs (effects seen) step reply
      (subst (λ x. EarlyIn most_runs x step reply) (sym state) e)

  early_there : (step : Step) (reply : Reply) → EarlyRightAt most_runs (effects seen) step reply →
      EarlyIn most_runs s step reply
  early_there step reply e = subst (λ x. EarlyIn most_runs x step reply) state
      (from_early most_runs (effects seen) step reply e)

  next_here : (e : Effect) → ((t : ℕ) → e ≡ Commits t → is_open (state_at (effects seen)).active t ≡ true) →
      NextIn (state_at (effects seen)) e → IsNextInOrder (effects seen) e
  next_here (Commits t) on n = subst (λ (done : List Answered). IsAnsweredAlone done (committed (effects seen)))
      (here.bodies t (on t refl)) n
  next_here (Begins t) on n = tt
  next_here (Answers t op reply) on n = tt
  next_here (Aborts t) on n = tt
  next_here Nothing on n = tt

  serial_now : IsSerial (effects seen)
  serial_now = last_moment IsSerial seen legal.serial

  -- a right event leaves the trace legal
  pub goes_on : (step : Step) (reply : Reply) → IsRightIn most_runs s step reply →
      IsLegal most_runs (seen ++ (step, reply) ∷ [])
  goes_on step reply right =
      let formed = formed_here step reply right.said.formed in
      record {
        formed = one_more_event (FormedAt most_runs) seen step reply legal.formed formed;
        busy = one_more_event (BusyRightAt most_runs) seen step reply legal.busy (busy_here step reply right.said.busy);
        serial = one_more_moment IsSerial seen step reply legal.serial
            ((here.serial step reply formed serial_now).1
            (next_here (effect step reply) (λ t e. commit_open most_runs (state_at (effects seen)) step reply t e
            (from_formed most_runs (effects seen) step reply formed))
            (subst (λ x. NextIn x (effect step reply)) (sym state) right.next)));
      }

  misformed_here : (step : Step) (reply : Reply) → IsMisformedIn most_runs s step reply →
      IsMisformed most_runs (effects seen) step reply
  misformed_here step reply w = record {
    form = λ f. w.form (formed_there step reply f);
    first = λ e. busy_here step reply (w.first (early_there step reply e));
  }

  wrongly_busy_here : (step : Step) (reply : Reply) → IsWronglyBusyIn most_runs s step reply →
      IsWronglyBusy most_runs (effects seen) step reply
  wrongly_busy_here step reply w = record {
    busy = λ b. w.busy (busy_there step reply b);
    first = early_here step reply w.first;
  }

  commits_wrongly_here : (step : Step) (reply : Reply) (position : ℕ) → CommitsWronglyIn most_runs (progress_of seen)
      step reply
      position → CommitsWrongly most_runs seen step reply (position + 2)
  commits_wrongly_here step reply position w = record {
    t = w.t;
    formed = formed_here step reply w.formed;
    commit = w.commit;
    answer = subst (λ (m : PlainMap). IsFirstWrongAnswer seen w.t m (position + 2))
        (ap (λ (x : State). x.committed) (sym state))
        (first_wrong seen w.t s.committed (fresh s.committed) position refl
        w.answer);
  }

  -- a fault of the event that comes next is the first fault
  pub is_first : (trace : Trace) (step : Step) (reply : Reply) (later : Trace) → trace ≡ seen ++ (step, reply) ∷ later →
      (position : ℕ) → position ≡ length seen → (event_fault : EventFault) → IsEventFault most_runs (progress_of seen)
      step reply
      event_fault → IsTrueFault most_runs trace (fault_of position event_fault)
  is_first trace step reply later is position at Form w = record {
    earlier = seen;
    event = (step, reply);
    later = later;
    split = is;
    legal = legal;
    fault = (ap (λ n. n + 2) at, misformed_here step reply w);
  }
  is_first trace step reply later is position at Busy w = record {
    earlier = seen;
    event = (step, reply);
    later = later;
    split = is;
    legal = legal;
    fault = (ap (λ n. n + 2) at, wrongly_busy_here step reply w);
  }
  is_first trace step reply later is position at (Answer n) w = record {
    earlier = seen;
    event = (step, reply);
    later = later;
    split = is;
    legal = legal;
    fault = commits_wrongly_here step reply n w;
  }
  is_first trace step reply later is position at NoMemory w = tt
