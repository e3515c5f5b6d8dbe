-- What a session on a store of its own says, by the plain map alone.
use Rattle.std.specs.Prelude.{◌≡◌, ℕ, ◌+◌, nat_le, length, List, [], ◌∷◌, ◌++◌, Bool, true, false, cond, not, ◌&&◌}
use Rattle.std.specs.Prelude.{filter, map, Option, Some, None, MatchBool, MatchOption}
use Rattle.std.specs.FinMap.{empty}
use Rattle.am_record.specs.Limits.{max_begun, max_runs}
use Rattle.am_record.specs.Records.{Records}
use Rattle.am_record.specs.Plain.{PlainMap, fresh, answer, left, left_on}
use Rattle.am_record.specs.Asks.{lock_of, locks_of}
use Rattle.am_record.specs.declared.step.Op.{Op}
use Rattle.am_record.specs.declared.step.Op.TheVariants.{Load, Put}
use Rattle.am_record.specs.declared.step.Reply.{Reply}
use Rattle.am_record.specs.declared.step.Reply.TheVariants.{Begun, Committed, Aborted, Refused}
use Rattle.am_record.specs.declared.step.Refusal.{Refusal}
use Rattle.am_record.specs.declared.step.Refusal.TheVariants.{TooManyTx, NoMemory}
use Rattle.am_law_serial.specs.Trace.{runs_made}
use Rattle.am_record.specs.Refusals.{refusal_before_lock, is_one_too_many, lock_refusal, or_else}
use Rattle.am_line_dialogue.specs.ParsedLine.{Line, parsed, is_upkeep, is_stage}
use Rattle.am_line_dialogue.specs.Actions.{with_staged, staged_left, stage_response, may_wait, is_hold_time}
use Rattle.am_line_dialogue.specs.Exchanges.{Exchange}
use Rattle.am_line_dialogue.specs.Alone.{alone_told, alone_end}
use Rattle.am_line_wire.specs.declared.request.Request.{Request}
use Rattle.am_line_wire.specs.declared.request.Request.TheVariants as request
use Rattle.am_line_text.specs.declared.fault.LineFault.TheVariants as fault
use Rattle.am_line_dialogue.specs.declared.lines.ParsedLine.{ParsedLine}
use Rattle.am_line_dialogue.specs.declared.lines.ParsedLine.TheVariants as said
use Rattle.am_line_dialogue.specs.declared.response.Response.{Response}
use Rattle.am_line_dialogue.specs.declared.response.Response.TheVariants.{TooLong, Faulty, NoTransaction, Active}
use Rattle.am_line_dialogue.specs.declared.response.Response.TheVariants.{StillStaged, Replied, Seen, Hold, Who, End}
use Rattle.am_line_dialogue.specs.declared.response.HoldAnswer.TheVariants.{Granted, OutOfBounds}

-- how many transactions were begun and committed and how many runs were made, the map that the committed ones left, the
-- operations of the active transaction, and the records that wait for its next load or put
pub record DialogueState : Type 0 where
  pub begun : ℕ
  pub commits : ℕ
  pub runs : ℕ
  pub committed : PlainMap
  pub own : Option (List Op)
  pub staged : Records

abbrev pub dialogue_start : DialogueState
dialogue_start = record { begun = 0; commits = 0; runs = 0; committed = empty; own = None; staged = [] }

-- the refusal that is due to an operation, by those before it; a session alone meets no lock of another
abbrev pub refusal_due : DialogueState → List Op → Op → Option Refusal
refusal_due s ops op =
    or_else (refusal_before_lock true (length ops) (nat_le max_runs s.runs) op)
    (lock_refusal None (is_one_too_many (locks_of ops) (lock_of op)))

-- the reply: the refusal that is due, and else the answer on the committed map with the transaction's own operations
-- applied
abbrev pub refused_or : Option Refusal → Reply → Reply
refused_or None reply = reply
refused_or (Some why) reply = Refused why

abbrev pub reply_due : DialogueState → List Op → Op → Reply
reply_due s ops op = refused_or (refusal_due s ops op) (answer op (left_on ops (fresh s.committed)))

abbrev pub begin_due : DialogueState → Reply
begin_due s = cond (nat_le max_begun s.begun) (Refused TooManyTx) (Begun (s.begun + 1))

abbrev pub commit_response : DialogueState → Records → Response
commit_response s [] = Replied (Committed (s.commits + 1))
commit_response s (r ∷ rs) = StillStaged

-- who is alone has the store to itself, for any time that may be asked for
abbrev pub hold_response : ℕ → Response
hold_response millis = Hold (cond (is_hold_time millis) Granted OutOfBounds)

-- the answer to a request; MERGE and CLEAN are not said by the plain map. A session ends at QUIT, before it asks here
abbrev pub answer_to : DialogueState → Option (List Op) → Request → Option Response
answer_to s None request.Begin = Some (Replied (begin_due s))
answer_to s (Some ops) request.Begin = Some Active
answer_to s (Some ops) (request.Do op) = Some (Replied (reply_due s ops (with_staged s.staged op)))
answer_to s (Some ops) (request.Stage records) = Some (stage_response s.staged records)
answer_to s (Some ops) request.Commit = Some (commit_response s s.staged)
answer_to s (Some ops) request.Abort = Some (Replied Aborted)
answer_to s own request.Seen = Some (Seen 0 s.commits)
answer_to s None (request.Hold millis) = Some (hold_response millis)
answer_to s (Some ops) (request.Hold millis) = Some Active
answer_to s None (request.Who which) = Some (Who (alone_told which None))
answer_to s (Some ops) (request.Who which) = Some (Who (alone_told which (Some s.begun)))
answer_to s own (request.End session) = Some (End (alone_end session))
answer_to s own (request.Merge limit) = None
answer_to s own (request.Clean range limit) = None
answer_to s own _ = Some NoTransaction

-- an operation that is answered is the transaction's own from then on
abbrev pub state_did : DialogueState → List Op → Op → Reply → DialogueState
state_did s ops op (Refused why) = s
state_did s ops op reply = record s {
  runs = s.runs + runs_made (left ops s.committed) op reply;
  own = Some (ops ++ op ∷ []);
}

-- with what waits a load or a put goes on, whatever it is answered
abbrev pub state_done : DialogueState → List Op → Op → DialogueState
state_done s ops op = state_did (record s { staged = staged_left s.staged op }) ops (with_staged s.staged op)
    (reply_due s ops (with_staged s.staged op))

abbrev pub state_staged : DialogueState → Records → DialogueState
state_staged s records = cond (may_wait s.staged records) (record s { staged = s.staged ++ records }) s

abbrev pub state_committed : DialogueState → List Op → Records → DialogueState
state_committed s ops [] = record s { commits = s.commits + 1; committed = left ops s.committed; own = None }
state_committed s ops (r ∷ rs) = s

abbrev pub state_asked : DialogueState → Option (List Op) → Request → DialogueState
state_asked s None request.Begin = cond (nat_le max_begun s.begun) s (record s { begun = s.begun + 1; own = Some [] })
state_asked s (Some ops) (request.Do op) = state_done s ops op
state_asked s (Some ops) (request.Stage records) = state_staged s records
state_asked s (Some ops) request.Commit = state_committed s ops s.staged
state_asked s (Some ops) request.Abort = record s { own = None; staged = [] }
state_asked s own _ = s

abbrev pub response_due : DialogueState → ParsedLine → Option Response
response_due s said.TooLong = Some TooLong
response_due s (said.Faulty fault) = Some (Faulty fault)
response_due s (said.Asked request) = answer_to s s.own request

abbrev pub state_after_line : DialogueState → ParsedLine → DialogueState
state_after_line s (said.Asked request) = state_asked s s.own request
state_after_line s _ = s

-- put in front, where there is one
abbrev pub before : Option Response → List Response → List Response
before None responses = responses
before (Some response) responses = response ∷ responses

-- what is said to the lines, one response for each but MERGE and CLEAN
abbrev pub say_from : DialogueState → List Line → List Response
say_from s [] = []
say_from s (line ∷ lines) = before (response_due s (parsed line)) (say_from (state_after_line s (parsed line)) lines)

abbrev pub say : List Line → List Response
say lines = say_from dialogue_start lines

-- whether memory was refused to the line
abbrev pub wants_memory : Response → Bool
wants_memory (Faulty fault.NoMemory) = true
wants_memory (Replied (Refused NoMemory)) = true
wants_memory _ = false

-- A line to which memory was refused did nothing; but where it is the load or the put itself that was refused, what
-- waited is let go.
abbrev pub is_load_line : ParsedLine → Bool
is_load_line (said.Asked (request.Do (Load records))) = true
is_load_line (said.Asked (request.Do (Put records))) = true
is_load_line _ = false

abbrev pub is_refused_load : ParsedLine → Response → Bool
is_refused_load parsed (Replied reply) = is_load_line parsed
is_refused_load parsed _ = false

abbrev pub state_refused : DialogueState → ParsedLine → Response → DialogueState
state_refused s parsed response = cond (is_refused_load parsed response) (record s { staged = [] }) s

-- All other lines were answered as they are said, MERGE and CLEAN aside.
abbrev pub IsSaid : Option Response → Response → Type 0
IsSaid due response = MatchOption due (Unit {0}) (λ said. response ≡ said)

abbrev pub SaysFrom : DialogueState → List Exchange → Type 0
SaysFrom s [] = Unit {0}
SaysFrom s (e ∷ exchanges) = MatchBool (wants_memory e.1)
    (SaysFrom (state_refused s (parsed e.0) e.1) exchanges)
    (IsSaid (response_due s (parsed e.0)) e.1 × SaysFrom (state_after_line s (parsed e.0)) exchanges)

abbrev pub Says : List Exchange → Type 0
Says exchanges = SaysFrom dialogue_start exchanges

-- The same in one piece: the exchanges in which memory was found, and among these those that are no MERGE or CLEAN.
abbrev pub with_memory : List Exchange → List Exchange
with_memory exchanges = filter (λ (e : Exchange). not (wants_memory e.1)) exchanges

abbrev pub without_upkeep : List Exchange → List Exchange
without_upkeep exchanges = filter (λ (e : Exchange). not (is_upkeep (parsed e.0))) exchanges

-- the lines to which memory was not refused were answered as they are said
abbrev pub AreSay : List Exchange → Type 0
AreSay exchanges = map (λ (e : Exchange). e.1) (without_upkeep (with_memory exchanges)) ≡
    say (map (λ (e : Exchange). e.0) (with_memory exchanges))

-- the line stages nothing; the load or the put of the line wasn't refused memory
abbrev pub StagesNothing : Exchange → Type 0
StagesNothing e = is_stage (parsed e.0) ≡ false

abbrev pub LosesNothing : Exchange → Type 0
LosesNothing e = (wants_memory e.1 && is_refused_load (parsed e.0) e.1) ≡ false
