-- What a session did up to its stop, when no further line is answered and what is active isn't aborted yet.
use Rattle.std.specs.Prelude.{◌≡◌, ℕ, List, [], ◌++◌, Bool, Option}
use Rattle.am_law_serial.specs.Trace.{Trace}
use Rattle.am_line_source.specs.SourceReads.{Took}
use Rattle.am_line_sink.specs.SinkWrites.{Gave}
use Rattle.am_line_dialogue.specs.Exchanges.{Exchange}
use Rattle.am_line_dialogue.specs.Backends.{BackendMeaning}
use Rattle.am_line_dialogue.specs.Conversation.{SessionPoint, Converses}
use Rattle.am_line_session.specs.Waits.{Waits}
use Rattle.am_line_session.specs.ServedSessions.{StopsBy}
use Rattle.am_line_session.specs.declared.session.Stop.{Stop}
use Rattle.am_line_session.specs.declared.session.Stop.TheVariants.{Quit, EndedByAnother, ReadFailed, WriteFailed}

-- the lines were answered, and the session waited for a further one, where it didn't end at a line
abbrev pub Rests : {B : Type 0} → BackendMeaning B → ℕ → SessionPoint B → List Exchange → Option Exchange → Trace →
    SessionPoint B → Type 0
Rests {B} means auto old exchanges torn events new = (last : SessionPoint B) × (own idle : Trace) × (is_late : Bool) ×
    Converses means auto old exchanges torn own last × Waits means is_late last idle new × (events ≡ own ++ idle)

-- what was taken, given and answered up to the stop
abbrev pub Talked : {S K B : Type 0} → (S → List ℕ → Type 0) → (K → Option (List ℕ)) → BackendMeaning B → ℕ → S → K →
    SessionPoint B → S → K → SessionPoint B → Stop → Type 0
Talked comes holds means auto s k b s' k' b' stop =
    StopsBy (λ bytes. Took comes s bytes s') (λ text. Gave holds k text k') (λ text. Unit {0}) (comes s' [])
    (λ exchanges torn events. Rests means auto b exchanges torn events b') (Unit {0}) stop

abbrev pub reads_failed : Stop → ℕ
reads_failed ReadFailed = 1
reads_failed _ = 0

abbrev pub writes_failed : Stop → ℕ
writes_failed WriteFailed = 1
writes_failed _ = 0

-- whether all that was written was sent on; at QUIT it goes out with BYE, and who was ended by another is cut off
abbrev pub IsSentBy : Stop → Type 0 → Type 0
IsSentBy Quit sent = Unit {0}
IsSentBy WriteFailed sent = Unit {0}
IsSentBy EndedByAnother sent = Unit {0}
IsSentBy stop sent = sent
