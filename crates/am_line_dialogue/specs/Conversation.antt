-- A session with a backend, line by line. It stands at a point: a state of the backend, and the records that wait in
-- the session for its next load.
use Rattle.std.specs.Prelude.{◌≡◌, ◌⊎◌, ℕ, ◌==◌, List, [], ◌∷◌, ◌++◌, Option, Some, None, MatchBool, Result}
use Rattle.am_record.specs.declared.memory.NoMemory.{NoMemory}
use Rattle.am_record.specs.declared.step.Step.{Step}
use Rattle.am_record.specs.declared.step.Step.TheVariants.{Abort, Merge}
use Rattle.am_record.specs.declared.step.Reply.{Reply}
use Rattle.am_record.specs.declared.step.Reply.TheVariants.{Aborted}
use Rattle.am_record.specs.Records.{Records}
use Rattle.am_law_serial.specs.Trace.{Trace}
use Rattle.am_line_dialogue.specs.ParsedLine.{MayParse}
use Rattle.am_line_dialogue.specs.Session.{SessionState, staged_after}
use Rattle.am_line_dialogue.specs.Actions.{IsActionFor}
use Rattle.am_line_dialogue.specs.Exchanges.{Exchange}
use Rattle.am_line_dialogue.specs.Backends.{BackendMeaning}
use Rattle.am_line_dialogue.specs.declared.lines.ParsedLine.{ParsedLine}
use Rattle.am_line_dialogue.specs.declared.action.Action.{Action}
use Rattle.am_line_dialogue.specs.declared.action.Action.TheVariants.{Answer, Take, TellSeen, AskHold, TellWho, AskEnd}
use Rattle.am_line_dialogue.specs.declared.response.Response.{Response}
use Rattle.am_line_dialogue.specs.declared.response.Response.TheVariants.{Replied, Seen, Hold, End, Lapsed}
use Rattle.am_line_dialogue.specs.declared.response.HoldAnswer.{HoldAnswer}
use Rattle.am_line_dialogue.specs.declared.response.EndAnswer.{EndAnswer}
use Rattle.am_line_dialogue.specs.declared.told_sessions.ToldSession.{ToldSession}
use Rattle.am_line_wire.specs.declared.request.WhichSessions.{WhichSessions}
use Rattle.am_line_dialogue.specs.Responses.{who_response}

abbrev pub SessionPoint : Type 0 → Type 0
SessionPoint B = B × Records

module _ {B : Type 0} (means : BackendMeaning B) where
  abbrev pub session_at : SessionPoint B → SessionState
  session_at at = record { active = means.active at.0; staged = at.1 }

  -- nothing was done
  abbrev pub Stays : SessionPoint B → Trace → SessionPoint B → Type 0
  Stays old events new = (events ≡ []) × (new ≡ old)

  -- the backend took a step, with this reply
  abbrev pub TakesStep : SessionPoint B → Step → Reply → Trace → SessionPoint B → Type 0
  TakesStep old step reply events new = means.steps old.0 step reply new.0 × (events ≡ (step, reply) ∷ []) ×
      (new.1 ≡ staged_after old.1 reply)

  -- the backend showed which session this is, and how many commits it sees
  abbrev pub ShowsSeen : SessionPoint B → ℕ → ℕ → Trace → SessionPoint B → Type 0
  ShowsSeen old session commits events new = means.shows old.0 session commits new.0 × (events ≡ []) × (new.1 ≡ old.1)

  -- the backend answered who would hold for so long
  abbrev pub AnswersHold : SessionPoint B → ℕ → HoldAnswer → Trace → SessionPoint B → Type 0
  AnswersHold old millis answer events new = means.holds old.0 millis answer × Stays old events new

  -- the backend told which sessions there are, of these
  abbrev pub TellsWho : SessionPoint B → WhichSessions → Result (List ToldSession) NoMemory → Trace →
      SessionPoint B → Type 0
  TellsWho old which told events new = means.tells old.0 which told × Stays old events new

  -- the backend answered who would end this session
  abbrev pub AnswersEnd : SessionPoint B → ℕ → EndAnswer → Trace → SessionPoint B → Type 0
  AnswersEnd old session answer events new = means.ends old.0 session answer × Stays old events new

  -- what was due was answered by this response, with these events
  abbrev pub AnswersAction : SessionPoint B → Action → Response → Trace → SessionPoint B → Type 0
  AnswersAction old (Answer due) response events new = (response ≡ due) × Stays old events new
  AnswersAction old (Take step) response events new = (reply : Reply) × (response ≡ Replied reply) ×
      TakesStep old step reply events new
  AnswersAction old TellSeen response events new = (session commits : ℕ) × (response ≡ Seen session commits) ×
      ShowsSeen old session commits events new
  AnswersAction old (AskHold millis) response events new = (answer : HoldAnswer) × (response ≡ Hold answer) ×
      AnswersHold old millis answer events new
  AnswersAction old (TellWho which) response events new = (told : Result (List ToldSession) NoMemory) ×
      (response ≡ who_response told) × TellsWho old which told events new
  AnswersAction old (AskEnd session) response events new = (answer : EndAnswer) × (response ≡ End answer) ×
      AnswersEnd old session answer events new

  -- a line that was parsed so was answered, and these wait on
  abbrev pub AnswersParsed : SessionPoint B → ParsedLine → Response → Trace → SessionPoint B → Type 0
  AnswersParsed old parsed response events new =
      (what : Action) × (waiting : Records) × IsActionFor (session_at old) parsed what (session_at (old.0, waiting)) ×
      AnswersAction (old.0, waiting) what response events new

  -- the line was answered by what it says
  abbrev pub AnswersHeard : SessionPoint B → Exchange → Trace → SessionPoint B → Type 0
  AnswersHeard old e events new = (parsed : ParsedLine) × MayParse e.0 parsed × AnswersParsed old parsed e.1 events new

  -- no line came for too long, and the transaction was aborted
  abbrev pub Lapses : SessionPoint B → Trace → SessionPoint B → Type 0
  Lapses old events new = means.lapses × ((tx : ℕ) × (means.active old.0 ≡ Some tx) ×
      TakesStep old (Abort tx) Aborted events new)

  -- and the line that came then was answered so, whatever it says
  abbrev pub AnswersLate : SessionPoint B → Exchange → Trace → SessionPoint B → Type 0
  AnswersLate old e events new = (e.1 ≡ Lapsed) × Lapses old events new

  -- the line was answered
  abbrev pub AnswersLine : SessionPoint B → Exchange → Trace → SessionPoint B → Type 0
  AnswersLine old e events new = AnswersHeard old e events new ⊎ AnswersLate old e events new

  -- a merge follows each answer, unless `auto` is 0
  abbrev pub MergesAfter : ℕ → SessionPoint B → Trace → SessionPoint B → Type 0
  MergesAfter auto old events new = MatchBool (auto == 0) (Stays old events new)
      ((merged : Reply) × TakesStep old (Merge auto) merged events new)

  -- the answer to one line more was torn, if there is one: no merge follows it
  abbrev pub AnswersTorn : SessionPoint B → Option Exchange → Trace → SessionPoint B → Type 0
  AnswersTorn old None events new = Stays old events new
  AnswersTorn old (Some e) events new = AnswersLine old e events new

  -- the lines were answered in order, with these events, and after them the one whose answer was torn
  abbrev pub Converses : ℕ → SessionPoint B → List Exchange → Option Exchange → Trace → SessionPoint B → Type 0
  Converses auto old [] torn events new = AnswersTorn old torn events new
  Converses auto old (e ∷ exchanges) torn events new =
      (own merged later : Trace) × (answered merging : SessionPoint B) × AnswersLine old e own answered ×
      MergesAfter auto answered merged merging × Converses auto merging exchanges torn later new ×
      (events ≡ own ++ (merged ++ later))

  -- the transaction was aborted where there was one
  abbrev pub Leaves : Option ℕ → B → Trace → B → Type 0
  Leaves None old events new = (events ≡ []) × (new ≡ old)
  Leaves (Some tx) old events new = means.steps old (Abort tx) Aborted new × (events ≡ (Abort tx, Aborted) ∷ [])

  -- the lines were answered, from where nothing waits, and what was active was aborted
  pub record AnswersAll (auto : ℕ) (old : B) (exchanges : List Exchange) (torn : Option Exchange) (events : Trace)
      (new : B) : Type 0 where
    pub last : SessionPoint B
    pub own : Trace
    pub aborting : Trace
    pub converses : Converses auto (old, []) exchanges torn own last
    pub leaves : Leaves (means.active last.0) last.0 aborting new
    pub are : events ≡ own ++ aborting
