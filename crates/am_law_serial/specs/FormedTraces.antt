-- What the machine's state says of a trace that is formed, whether or not its answers are right.
use Rattle.std.specs.Prelude.{◌≡◌, ◌↔◌, ℕ, List, [], ◌∷◌, ◌++◌, true, Some}
use Rattle.am_record.specs.Asks.{lock_of}
use Rattle.am_record.specs.declared.step.Op.{Op}
use Rattle.am_record.specs.declared.step.Step.{Step}
use Rattle.am_record.specs.declared.step.Reply.{Reply}
use Rattle.am_law_serial.specs.Trace.{Trace, Effect, Commits, effect, effects, body, committed, IsSerial}
use Rattle.am_law_serial.specs.Trace.{IsAnsweredAlone}
use Rattle.am_law_serial.specs.Machine.{start, after_run, blocker, is_open, body_in, state_at}
use Rattle.am_law_serial.specs.Sound.{FormedAt, EachEvent, IsLeastBlocker}

abbrev pub IsFormed : ℕ → Trace → Type 0
IsFormed most_runs trace = EachEvent (FormedAt most_runs) [] trace

-- what a trace that is serial so far needs to stay so: a body that commits was answered as alone on the committed map
abbrev pub IsNextInOrder : List Effect → Effect → Type 0
IsNextInOrder es (Commits t) = IsAnsweredAlone (body es t) (committed es)
IsNextInOrder es _ = Unit {0}

pub record FormedLaws (most_runs : ℕ) (trace : Trace) : Type 0 where
  -- the machine's state is what the trace says
  pub state : state_at (effects trace) ≡ after_run start trace
  -- its bodies are those of the trace
  pub bodies : (t : ℕ) → is_open (state_at (effects trace)).active t ≡ true →
      body_in (state_at (effects trace)).active t ≡ body (effects trace) t
  -- it names the least blocker
  pub least : (t : ℕ) (op : Op) (h : ℕ) → IsLeastBlocker (effects trace) t op h ↔
      (blocker (state_at (effects trace)).active t (lock_of op) ≡ Some h)
  pub serial : (step : Step) (reply : Reply) → FormedAt most_runs (effects trace) step reply →
      IsSerial (effects trace) →
      IsSerial (effects trace ++ effect step reply ∷ []) ↔ IsNextInOrder (effects trace) (effect step reply)
