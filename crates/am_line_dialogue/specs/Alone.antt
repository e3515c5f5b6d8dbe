-- A session alone: its backend may give any reply.
use Rattle.std.specs.Prelude.{◌≡◌, ◌<◌, ℕ, ◌+◌, ◌==◌, List, [], ◌∷◌, length, Option, Some, None, Result, Ok, Err}
use Rattle.std.specs.Prelude.{cond}
use Rattle.am_record.specs.declared.memory.NoMemory.{NoMemory}
use Rattle.am_record.specs.Sessions.{active_after}
use Rattle.am_record.specs.declared.step.Step.{Step}
use Rattle.am_record.specs.declared.step.Step.TheVariants.{Commit}
use Rattle.am_record.specs.declared.step.Reply.{Reply}
use Rattle.am_record.specs.declared.step.Reply.TheVariants.{Committed}
use Rattle.am_law_serial.specs.Trace.{Trace}
use Rattle.am_line_dialogue.specs.Exchanges.{Exchange}
use Rattle.am_line_dialogue.specs.declared.response.HoldAnswer.{HoldAnswer}
use Rattle.am_line_dialogue.specs.declared.response.HoldAnswer.TheVariants.{Granted}
use Rattle.am_line_dialogue.specs.declared.response.EndAnswer.{EndAnswer}
use Rattle.am_line_dialogue.specs.declared.response.EndAnswer.TheVariants.{EndsItself, NoSession}
use Rattle.am_line_wire.specs.declared.request.WhichSessions.{WhichSessions}
use Rattle.am_line_wire.specs.declared.request.WhichSessions.TheVariants.{Active, All}
use Rattle.am_line_dialogue.specs.declared.told_sessions.Standing.TheVariants.{Free}
use Rattle.am_line_dialogue.specs.declared.told_sessions.ToldSession.{ToldSession}
use Rattle.am_line_dialogue.specs.Backends.{BackendMeaning}
use Rattle.am_line_dialogue.specs.Conversation.{AnswersAll}

-- its active transaction, and the commits so far
pub record Alone : Type 0 where
  pub active : Option ℕ
  pub commits : ℕ

abbrev pub alone_start : Alone
alone_start = record { active = None; commits = 0 }

-- how many commits there are after a step
abbrev pub commits_after : ℕ → Step → Reply → ℕ
commits_after commits (Commit tx) (Committed number) = commits + 1
commits_after commits _ _ = commits

abbrev pub alone_after : Alone → Step → Reply → Alone
alone_after a step reply = record {
  active = active_after a.active reply;
  commits = commits_after a.commits step reply;
}

-- SEEN shows 0, a session alone, and the commits
abbrev pub AloneShows : Alone → ℕ → ℕ → Alone → Type 0
AloneShows old session commits new = (session ≡ 0) × (commits ≡ old.commits) × (new ≡ old)

-- who is alone has the store to itself
abbrev pub AloneHolds : HoldAnswer → Type 0
AloneHolds answer = answer ≡ Granted

-- it is the only one, the line that asks is its last, and it neither holds nor waits
abbrev pub alone_one : Option ℕ → ToldSession
alone_one active = record { session = 0; tx = active; seconds = 0; standing = Free }

abbrev pub alone_told : WhichSessions → Option ℕ → List ToldSession
alone_told All active = alone_one active ∷ []
alone_told Active None = []
alone_told Active (Some tx) = alone_one (Some tx) ∷ []

-- memory may be refused where there is something to tell
abbrev pub AloneTells : Option ℕ → WhichSessions → Result (List ToldSession) NoMemory → Type 0
AloneTells active which (Ok told) = told ≡ alone_told which active
AloneTells active which (Err refused) = 0 < length (alone_told which active)

-- its number is 0, and nobody else is there
abbrev pub alone_end : ℕ → EndAnswer
alone_end session = cond (session == 0) EndsItself NoSession

abbrev pub alone_meaning : BackendMeaning Alone
alone_meaning = record {
  active = λ a. a.active;
  steps = λ old step reply new. new ≡ alone_after old step reply;
  shows = AloneShows;
  holds = λ a millis answer. AloneHolds answer;
  tells = λ a which told. AloneTells a.active which told;
  ends = λ a session answer. answer ≡ alone_end session;
  lapses = ⊥;
}

-- from its start on the lines were answered so, with these events
abbrev pub AnswersAlone : ℕ → List Exchange → Option Exchange → Trace → Type 0
AnswersAlone auto exchanges torn events = (end : Alone) ×
    AnswersAll alone_meaning auto alone_start exchanges torn events end
