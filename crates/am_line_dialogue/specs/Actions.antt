-- What is due for a line, by where the session stands, and where it stands then.
use Rattle.std.specs.Prelude.{◌≡◌, ◌⊎◌, ℕ, ◌+◌, nat_le, ◌&&◌, length, [], ◌∷◌, ◌++◌, Bool, true, false, cond, Option}
use Rattle.std.specs.Prelude.{Some, None, Result, Ok, Err}
use Rattle.am_record.specs.Limits.{max_run_records}
use Rattle.am_record.specs.Sessions.{IsAllowed}
use Rattle.am_record.specs.Copies.{has_pairs}
use Rattle.am_record.specs.Records.{Records}
use Rattle.am_record.specs.declared.step.Op.{Op}
use Rattle.am_record.specs.declared.step.Op.TheVariants.{Load, Put}
use Rattle.am_record.specs.declared.step.Step.{Step}
use Rattle.am_record.specs.declared.step.Step.TheVariants as step
use Rattle.am_record.specs.declared.step.Reply.{Reply}
use Rattle.am_record.specs.declared.step.Reply.TheVariants.{Aborted}
use Rattle.am_line_text.specs.declared.fault.LineFault.TheVariants as fault
use Rattle.am_line_wire.specs.declared.request.Request.{Request}
use Rattle.am_line_wire.specs.declared.request.Request.TheVariants.{Begin, Do, Stage, Commit, Abort, Merge, Clean, Seen}
use Rattle.am_line_wire.specs.declared.request.Request.TheVariants.{Hold, Who, End, Quit}
use Rattle.am_line_dialogue.specs.Session.{SessionState}
use Rattle.am_line_dialogue.specs.declared.lines.ParsedLine.{ParsedLine}
use Rattle.am_line_dialogue.specs.declared.lines.ParsedLine.TheVariants as said
use Rattle.am_line_dialogue.specs.declared.response.Response.{Response}
use Rattle.am_line_dialogue.specs.declared.response.Response.TheVariants as response
use Rattle.am_line_dialogue.specs.declared.response.HoldAnswer.TheVariants.{OutOfBounds}
use Rattle.am_line_dialogue.specs.declared.action.Action.{Action}
use Rattle.am_line_dialogue.specs.declared.action.Action.TheVariants.{Answer, Take, TellSeen, AskHold, TellWho, AskEnd}

-- ---- staged records

-- whether these may wait beside those that wait
abbrev pub may_wait : Records → Records → Bool
may_wait staged records = nat_le (length staged + length records) max_run_records

abbrev pub some_wait : Records → Bool
some_wait [] = false
some_wait (r ∷ rs) = true

-- an operation with what waits, which a load or a put takes with it
abbrev pub with_staged : Records → Op → Op
with_staged staged (Load records) = Load (staged ++ records)
with_staged staged (Put records) = Put (staged ++ records)
with_staged staged op = op

abbrev pub staged_left : Records → Op → Records
staged_left staged (Load records) = []
staged_left staged (Put records) = []
staged_left staged op = staged

-- what waits where a line asked this
abbrev pub staged_asked : Option ℕ → Records → Request → Records
staged_asked (Some tx) staged (Do op) = staged_left staged op
staged_asked (Some tx) staged (Stage records) = cond (may_wait staged records) (staged ++ records) staged
staged_asked active staged request = staged

-- ---- what is due

abbrev pub stage_response : Records → Records → Response
stage_response staged records = cond (may_wait staged records) response.Staged response.TooManyStaged

abbrev pub commit_action : ℕ → Records → Action
commit_action tx [] = Take (step.Commit tx)
commit_action tx (r ∷ rs) = Answer response.StillStaged

-- whether one may ask to hold for so many milliseconds
abbrev pub is_hold_time : ℕ → Bool
is_hold_time millis = nat_le 1 millis && nat_le millis 60000

abbrev pub hold_action : ℕ → Action
hold_action millis = cond (is_hold_time millis) (AskHold millis) (Answer (response.Hold OutOfBounds))

abbrev pub request_action : Option ℕ → Records → Request → Action
request_action None staged Begin = Take step.Begin
request_action (Some tx) staged Begin = Answer response.Active
request_action None staged (Do op) = Answer response.NoTransaction
request_action (Some tx) staged (Do op) = Take (step.Do tx (with_staged staged op))
request_action None staged (Stage records) = Answer response.NoTransaction
request_action (Some tx) staged (Stage records) = Answer (stage_response staged records)
request_action None staged Commit = Answer response.NoTransaction
request_action (Some tx) staged Commit = commit_action tx staged
request_action None staged Abort = Answer response.NoTransaction
request_action (Some tx) staged Abort = Take (step.Abort tx)
request_action active staged (Merge limit) = Take (step.Merge limit)
request_action active staged (Clean range limit) = Take (step.Clean range limit)
request_action active staged Seen = TellSeen
request_action None staged (Hold millis) = hold_action millis
request_action (Some tx) staged (Hold millis) = Answer response.Active
request_action active staged (Who which) = TellWho which
request_action active staged (End session) = AskEnd session
request_action active staged Quit = Answer response.NoTransaction

abbrev pub action_for : SessionState → ParsedLine → Action
action_for s said.TooLong = Answer response.TooLong
action_for s (said.Faulty fault) = Answer (response.Faulty fault)
action_for s (said.Asked request) = request_action s.active s.staged request

abbrev pub session_behind_line : SessionState → ParsedLine → SessionState
session_behind_line s (said.Asked request) =
    record { active = s.active; staged = staged_asked s.active s.staged request }
session_behind_line s _ = s

-- ---- with memory refused

-- whether room is wanted for records beside those that wait
abbrev pub wants_records_room : Option ℕ → Records → Request → Bool
wants_records_room (Some tx) staged (Stage records) = may_wait staged records
wants_records_room (Some tx) staged (Do op) = has_pairs op && some_wait staged
wants_records_room active staged request = false

abbrev pub no_room : Action
no_room = Answer (response.Faulty fault.NoMemory)

abbrev pub IsActionForRequest : SessionState → Request → Action → SessionState → Type 0
IsActionForRequest s request what s' =
    ((what ≡ request_action s.active s.staged request) × (s' ≡
    record { active = s.active; staged = staged_asked s.active s.staged request }))
    ⊎ ((wants_records_room s.active s.staged request ≡ true) × (what ≡ no_room) × (s' ≡ s))

-- what may be due: where room was refused, it is that answer, and the session stands where it stood
abbrev pub IsActionFor : SessionState → ParsedLine → Action → SessionState → Type 0
IsActionFor s (said.Asked request) what s' = IsActionForRequest s request what s'
IsActionFor s parsed what s' = (what ≡ action_for s parsed) × (s' ≡ s)

-- the answer to STAGE where a transaction is active
abbrev pub MayStage : SessionState → Records → Response → SessionState → Type 0
MayStage s records answer s' =
    ((answer ≡ stage_response s.staged records) × (s' ≡ record
    { active = s.active; staged = cond (may_wait s.staged records) (s.staged ++ records) s.staged }))
    ⊎ ((may_wait s.staged records ≡ true) × (answer ≡ response.Faulty fault.NoMemory) × (s' ≡ s))

-- an operation with what waits, and what waits then
abbrev pub MayTakeAlong : {E : Type 0} → SessionState → Op → Result Op E → SessionState → Type 0
MayTakeAlong s op (Ok whole) s' = (whole ≡ with_staged s.staged op) ×
    (s' ≡ record { active = s.active; staged = staged_left s.staged op })
MayTakeAlong s op (Err e) s' = ((has_pairs op && some_wait s.staged) ≡ true) × (s' ≡ s)

-- the records of a LOAD or a PUT
abbrev pub MayGather : {E : Type 0} → SessionState → Records → Result Records E → SessionState → Type 0
MayGather s records (Ok all) s' = (all ≡ s.staged ++ records) × (s' ≡ record { active = s.active; staged = [] })
MayGather s records (Err e) s' = (some_wait s.staged ≡ true) × (s' ≡ s)

-- ---- steps

abbrev pub IsAllowedAction : Option ℕ → Action → Type 0
IsAllowedAction active (Take step) = IsAllowed active step
IsAllowedAction active _ = Unit {0}

-- an abort is never refused
abbrev pub EndsAbort : Step → Reply → Type 0
EndsAbort (step.Abort tx) reply = reply ≡ Aborted
EndsAbort _ reply = Unit {0}
