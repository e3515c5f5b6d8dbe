-- What contracts know of a session's backend, a store as one session sees it.
use Rattle.std.specs.Prelude.{ℕ, List, Option, Result}
use Rattle.am_record.specs.declared.memory.NoMemory.{NoMemory}
use Rattle.am_record.specs.declared.step.Step.{Step}
use Rattle.am_record.specs.declared.step.Reply.{Reply}
use Rattle.am_line_wire.specs.declared.request.WhichSessions.{WhichSessions}
use Rattle.am_line_dialogue.specs.declared.told_sessions.ToldSession.{ToldSession}
use Rattle.am_line_dialogue.specs.declared.response.HoldAnswer.{HoldAnswer}
use Rattle.am_line_dialogue.specs.declared.response.EndAnswer.{EndAnswer}

-- which transaction is active in a state; from which state a step, with which reply, leads to which; which number of a
-- session and of commits may be shown in a state, and the state then; what a HOLD for so many milliseconds, a WHO about
-- some sessions, and the END of a session may be answered in a state, which they leave as it is; and whether a
-- transaction may lapse: be aborted where no line comes of its session for too long
pub record BackendMeaning (B : Type 0) : Type 1 where
  pub active : B → Option ℕ
  pub steps : B → Step → Reply → B → Type 0
  pub shows : B → ℕ → ℕ → B → Type 0
  pub holds : B → ℕ → HoldAnswer → Type 0
  pub tells : B → WhichSessions → Result (List ToldSession) NoMemory → Type 0
  pub ends : B → ℕ → EndAnswer → Type 0
  pub lapses : Type 0
