-- What WHO tells of the sessions that a server serves.
use Rattle.std.specs.Prelude.{◌≡◌, ℕ, List, Option, Some, option_map, Result, Ok, Err}
use Rattle.std.specs.List.{filter_map}
use Rattle.am_record.specs.declared.memory.NoMemory.{NoMemory}
use Rattle.am_line_wire.specs.declared.request.WhichSessions.{WhichSessions}
use Rattle.am_line_wire.specs.declared.request.WhichSessions.TheVariants.{Active, All}
use Rattle.am_line_dialogue.specs.declared.told_sessions.Standing.{Standing}
use Rattle.am_line_dialogue.specs.declared.told_sessions.Standing.TheVariants as told
use Rattle.am_line_dialogue.specs.declared.told_sessions.ToldSession.{ToldSession}
use Rattle.am_serve_connections.specs.Connections.{AreToldAtOnce}
use Rattle.am_serve_connections.specs.declared.line.Standing.{Standing as Seen}
use Rattle.am_serve_connections.specs.declared.line.Standing.TheVariants.{Free, Holds, Waits}
use Rattle.am_serve_connections.specs.declared.connections.ServedSession.{ServedSession}

abbrev pub told_standing : Seen → Standing
told_standing Free = told.Free
told_standing Holds = told.Holds
told_standing Waits = told.Waits

-- what is told of a session, where anything is: of one with a transaction, or of each, with how it stands
abbrev pub told_of : WhichSessions → ServedSession → Option ToldSession
told_of All served = Some (record {
  session = served.session;
  tx = served.tx;
  seconds = served.seconds;
  standing = told_standing served.standing;
})
told_of Active served = option_map
    (λ (tx : ℕ). record { session = served.session; tx = Some tx; seconds = served.seconds; standing = told.Free })
    served.tx

-- where all are told, one look says how they stand
abbrev pub AreSeen : WhichSessions → List ServedSession → Type 0
AreSeen All served = (seen : List ServedSession) × AreToldAtOnce seen served
AreSeen Active served = Unit {0}

-- those that are served are told, each once; or memory was refused
abbrev pub TellsServed : WhichSessions → Result (List ToldSession) NoMemory → Type 0
TellsServed which (Ok told) = (served : List ServedSession) × AreSeen which served ×
    (told ≡ filter_map (told_of which) served)
TellsServed which (Err refused) = Unit {0}
