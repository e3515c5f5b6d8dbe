-- The first fault of a trace of a store that makes so many runs at most, and its line. The header is line 1, so an
-- event after n others stands on line n + 2.
use Rattle.std.specs.Prelude.{◌≡◌, ◌≢◌, ◌↔◌, ℕ, ◌+◌, length, List, ◌∷◌, ◌++◌, true, Some}
use Rattle.am_record.specs.Plain.{PlainMap, fresh, answer, left_on}
use Rattle.am_record.specs.declared.step.Refusal.{Refusal}
use Rattle.am_record.specs.declared.step.Op.{Op}
use Rattle.am_record.specs.declared.step.Step.{Step}
use Rattle.am_record.specs.declared.step.Step.TheVariants.{Do}
use Rattle.am_record.specs.declared.step.Reply.{Reply}
use Rattle.am_record.specs.declared.step.Reply.TheVariants.{Refused}
use Rattle.am_record.specs.Events.{Event}
use Rattle.am_law_serial.specs.Trace.{Trace, Effect, Answers, Commits, effect, effects, body, ops_of, committed}
use Rattle.am_law_serial.specs.Trace.{IsAnsweredAlone}
use Rattle.am_law_serial.specs.Machine.{state_at, is_full, due_early}
use Rattle.am_law_serial.specs.Sound.{FormedAt, BusyRightAt}
use Rattle.am_law_serial.specs.Legal.{IsLegal}
use Rattle.am_audit_replies.specs.Refused.{is_early}
use Rattle.am_audit.specs.declared.fault.FaultKind.{FaultKind}
use Rattle.am_audit.specs.declared.fault.FaultKind.TheVariants.{Form, Busy, Answer}
use Rattle.am_audit.specs.declared.fault.Fault.{Fault}
use Rattle.am_audit.specs.declared.fault.Fault.TheVariants.{Wrong, NoMemory}

-- a refusal that is tested before the lock is asked for is answered to an operation exactly where it is due
abbrev pub EarlyRightAt : ℕ → List Effect → Step → Reply → Type 0
EarlyRightAt most_runs es (Do t op) reply = (why : Refusal) → is_early why ≡ true →
    (reply ≡ Refused why) ↔ (due_early (is_full most_runs (state_at es).runs reply) (state_at es) t op ≡ Some why)
EarlyRightAt most_runs es _ reply = Unit {0}

-- Busy is tested after the early refusals, and before all else of the form
pub record IsMisformed (most_runs : ℕ) (es : List Effect) (step : Step) (reply : Reply) : Type 0 where
  pub form : ¬ (FormedAt most_runs es step reply)
  pub first : EarlyRightAt most_runs es step reply → BusyRightAt most_runs es step reply

pub record IsWronglyBusy (most_runs : ℕ) (es : List Effect) (step : Step) (reply : Reply) : Type 0 where
  pub busy : ¬ (BusyRightAt most_runs es step reply)
  pub first : EarlyRightAt most_runs es step reply

-- the operation on that line is the first of the transaction's whose answer isn't the one that its body gets alone on
-- the map
pub record IsFirstWrongAnswer (trace : Trace) (t : ℕ) (m : PlainMap) (line : ℕ) : Type 0 where
  pub earlier : Trace
  pub op : Op
  pub reply : Reply
  pub later : Trace
  pub split : trace ≡ earlier ++ (Do t op, reply) ∷ later
  pub position : line ≡ length earlier + 2
  pub answered : effect (Do t op) reply ≡ Answers t op reply
  pub first : IsAnsweredAlone (body (effects earlier) t) m
  pub wrong : reply ≢ answer op (left_on (ops_of (body (effects earlier) t)) (fresh m))

-- a formed commit of a body with a wrong answer
pub record CommitsWrongly (most_runs : ℕ) (trace : Trace) (step : Step) (reply : Reply) (line : ℕ) : Type 0 where
  pub t : ℕ
  pub formed : FormedAt most_runs (effects trace) step reply
  pub commit : effect step reply ≡ Commits t
  pub answer : IsFirstWrongAnswer trace t (committed (effects trace)) line

-- the event that comes after the trace has a fault of that kind, which is told by that line
abbrev pub IsFault : ℕ → Trace → Event → ℕ → FaultKind → Type 0
IsFault most_runs trace e line Form = (line ≡ length trace + 2) × IsMisformed most_runs (effects trace) e.0 e.1
IsFault most_runs trace e line Busy = (line ≡ length trace + 2) × IsWronglyBusy most_runs (effects trace) e.0 e.1
IsFault most_runs trace e line Answer = CommitsWrongly most_runs trace e.0 e.1 line

-- all is legal up to an event, and that one has the fault
pub record IsFirstFault (most_runs : ℕ) (trace : Trace) (line : ℕ) (kind : FaultKind) : Type 0 where
  pub earlier : Trace
  pub event : Event
  pub later : Trace
  pub split : trace ≡ earlier ++ event ∷ later
  pub legal : IsLegal most_runs earlier
  pub fault : IsFault most_runs earlier event line kind

-- want of memory says nothing of the trace
abbrev pub IsTrueFault : ℕ → Trace → Fault → Type 0
IsTrueFault most_runs trace (Wrong line kind) = IsFirstFault most_runs trace line kind
IsTrueFault most_runs trace NoMemory = Unit {0}
