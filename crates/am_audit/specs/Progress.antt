-- Where the audit of a trace stands after the events that it has seen.
use Rattle.std.specs.Prelude.{◌≡◌, ◌↔◌, ℕ, ◌+◌, ◌<◌, ◌≤◌, map, length, List, [], ◌∷◌, ◌++◌, true, Some, None}
use Rattle.std.specs.List.{cons_option, AllByRecursion}
use Rattle.std.specs.Option.{option_map}
use Rattle.am_record.specs.Plain.{fresh}
use Rattle.am_record.specs.Asks.{lock_of}
use Rattle.am_record.specs.declared.step.Refusal.{Refusal}
use Rattle.am_record.specs.declared.step.Refusal.TheVariants.{Busy as IsBusy}
use Rattle.am_record.specs.declared.step.Step.{Step}
use Rattle.am_record.specs.declared.step.Step.TheVariants.{Do}
use Rattle.am_record.specs.declared.step.Reply.{Reply}
use Rattle.am_record.specs.declared.step.Reply.TheVariants.{Refused}
use Rattle.am_record.specs.Refusals.{is_one_too_many}
use Rattle.am_law_serial.specs.Trace.{Trace, Answered, Effect, Commits, answered_to, effect, IsAnsweredAlone}
use Rattle.am_law_serial.specs.Machine.{State, Transaction, start, after_run, next, due_early, blocker, locks_in}
use Rattle.am_law_serial.specs.Machine.{body_in}
use Rattle.am_law_serial.specs.Machine.{is_full, May}
use Rattle.am_law_serial.specs.Sound.{FormedDo}
use Rattle.am_audit_locks.specs.HeldLocks.{owner_of, RiseByNumber}
use Rattle.am_audit_replies.specs.Refused.{is_early}
use Rattle.am_audit_replies.specs.OwnAnswers.{PlacedAnswer, answered_of, Listed, listed, IsFirstWrong}
use Rattle.am_audit_replies.specs.declared.event_fault.EventFault.{EventFault}
use Rattle.am_audit_replies.specs.declared.event_fault.EventFault.TheVariants.{Form, Busy, Answer, NoMemory}
use Rattle.am_audit.specs.declared.fault.FaultKind.TheVariants.{Form as OfForm, Busy as OfBusy, Answer as OfAnswer}
use Rattle.am_audit.specs.declared.fault.Fault.{Fault}
use Rattle.am_audit.specs.declared.fault.Fault.TheVariants.{Wrong, NoMemory as NothingKnown}
use Rattle.am_audit.specs.declared.checker.Checker.{Checker}

-- ---- places

-- the answered operations of a transaction, of events that stand from place n on
abbrev pub answers_from : ℕ → ℕ → Trace → List PlacedAnswer
answers_from n t [] = []
answers_from n t (e ∷ trace) = cons_option (option_map (λ (a : Answered). (n, a)) (answered_to t (effect e.0 e.1)))
    (answers_from (n + 1) t trace)

abbrev pub answers_at : Trace → ℕ → List PlacedAnswer
answers_at trace t = answers_from 0 t trace

-- ---- the machine at the events seen

-- of each transaction, its answered operations with their places
abbrev pub Bodies : Type 0
Bodies = ℕ → List PlacedAnswer

abbrev pub list_of : Bodies → Transaction → Listed
list_of bodies x = (x.0, bodies x.0)

-- what holds of the machine after formed events
pub record IsOrdinary (bodies : Bodies) (s : State) : Type 0 where
  pub below : AllByRecursion (λ (x : Transaction). x.0 ≤ s.begun) s.active
  pub rising : RiseByNumber s.active
  pub made : AllByRecursion (λ (x : Transaction). x.1 ≡ answered_of (bodies x.0)) s.active
  pub new : (t : ℕ) → s.begun < t → bodies t ≡ []

pub record IsAtState (p : Checker) (bodies : Bodies) (s : State) : Type 0 where
  pub begun : p.begun ≡ s.begun
  pub commits : p.commits ≡ s.commits
  pub runs : p.runs ≡ s.runs
  pub active : map listed p.active.items ≡ map (list_of bodies) s.active
  pub locks : p.locks ≡ map owner_of s.active
  pub committed : p.committed ≡ fresh s.committed
  pub ordinary : IsOrdinary bodies s

-- what an effect adds to a transaction's body, at that place
abbrev pub added : ℕ → ℕ → Effect → List PlacedAnswer
added n t e = cons_option (option_map (λ (a : Answered). (n, a)) (answered_to t e)) []

-- the machine, the bodies, and how many events were seen
pub record Progress : Type 0 where
  pub bodies : Bodies
  pub state : State
  pub count : ℕ

abbrev pub progress_of : Trace → Progress
progress_of seen = record { bodies = answers_at seen; state = after_run start seen; count = length seen }

-- one more event
abbrev pub progress_after : Progress → Effect → Progress
progress_after here e = record {
  bodies = λ t. here.bodies t ++ added here.count t e;
  state = next here.state e;
  count = here.count + 1;
}

abbrev pub HasChecked : Checker → Progress → Type 0
HasChecked p here = IsAtState p here.bodies here.state

-- ---- one event, by the machine's state before it; the machine makes so many runs at most

abbrev pub FormedIn : ℕ → State → Step → Reply → Type 0
FormedIn most_runs s (Do t op) reply = FormedDo (due_early (is_full most_runs s.runs reply) s t op)
    (is_one_too_many (locks_in s.active t) (lock_of op)) op reply
FormedIn most_runs s step reply = May most_runs s step reply

abbrev pub EarlyIn : ℕ → State → Step → Reply → Type 0
EarlyIn most_runs s (Do t op) reply = (why : Refusal) → is_early why ≡ true →
    (reply ≡ Refused why) ↔ (due_early (is_full most_runs s.runs reply) s t op ≡ Some why)
EarlyIn most_runs s _ reply = Unit {0}

abbrev pub BusyIn : ℕ → State → Step → Reply → Type 0
BusyIn most_runs s (Do t op) reply = (h : ℕ) → (reply ≡ Refused (IsBusy h)) ↔
    ((due_early (is_full most_runs s.runs reply) s t op ≡ None) × (blocker s.active t (lock_of op) ≡ Some h))
BusyIn most_runs s _ reply = Unit {0}

abbrev pub NextIn : State → Effect → Type 0
NextIn s (Commits t) = IsAnsweredAlone (body_in s.active t) s.committed
NextIn s _ = Unit {0}

-- the reply is right, whatever a commit commits
pub record IsRightOf (most_runs : ℕ) (s : State) (step : Step) (reply : Reply) : Type 0 where
  pub formed : FormedIn most_runs s step reply
  pub busy : BusyIn most_runs s step reply

pub record IsRightIn (most_runs : ℕ) (s : State) (step : Step) (reply : Reply) : Type 0 where
  pub said : IsRightOf most_runs s step reply
  pub next : NextIn s (effect step reply)

-- the event is right, and the audit stands after it
pub record TakesEvent (most_runs : ℕ) (here : Progress) (step : Step) (reply : Reply) (p : Checker) : Type 0 where
  pub right : IsRightIn most_runs here.state step reply
  pub stands : HasChecked p (progress_after here (effect step reply))

-- ---- a fault of the event that comes next

pub record IsMisformedIn (most_runs : ℕ) (s : State) (step : Step) (reply : Reply) : Type 0 where
  pub form : ¬ (FormedIn most_runs s step reply)
  pub first : EarlyIn most_runs s step reply → BusyIn most_runs s step reply

pub record IsWronglyBusyIn (most_runs : ℕ) (s : State) (step : Step) (reply : Reply) : Type 0 where
  pub busy : ¬ (BusyIn most_runs s step reply)
  pub first : EarlyIn most_runs s step reply

-- the fault is one of the reply itself
abbrev pub IsReplyFault : ℕ → State → Step → Reply → EventFault → Type 0
IsReplyFault most_runs s step reply Form = IsMisformedIn most_runs s step reply
IsReplyFault most_runs s step reply Busy = IsWronglyBusyIn most_runs s step reply
IsReplyFault most_runs s step reply (Answer position) = ⊥
IsReplyFault most_runs s step reply NoMemory = Unit {0}

-- a formed commit of a body with that wrong answer
pub record CommitsWronglyIn (most_runs : ℕ) (here : Progress) (step : Step) (reply : Reply) (position : ℕ) : Type 0
  where
    pub t : ℕ
    pub formed : FormedIn most_runs here.state step reply
    pub commit : effect step reply ≡ Commits t
    pub answer : IsFirstWrong (here.bodies t) (fresh here.state.committed) position

abbrev pub IsEventFault : ℕ → Progress → Step → Reply → EventFault → Type 0
IsEventFault most_runs here step reply Form = IsMisformedIn most_runs here.state step reply
IsEventFault most_runs here step reply Busy = IsWronglyBusyIn most_runs here.state step reply
IsEventFault most_runs here step reply (Answer position) = CommitsWronglyIn most_runs here step reply position
IsEventFault most_runs here step reply NoMemory = Unit {0}

-- how the fault of the event at that place is told
abbrev pub fault_of : ℕ → EventFault → Fault
fault_of position Form = Wrong (position + 2) OfForm
fault_of position Busy = Wrong (position + 2) OfBusy
fault_of position (Answer at) = Wrong (at + 2) OfAnswer
fault_of position NoMemory = NothingKnown

-- the place that is told
abbrev pub position_told : ℕ → EventFault → ℕ
position_told position (Answer at) = at
position_told position event_fault = position
