-- A transaction's lines in a dialogue in which none is active.
use Rattle.std.specs.Prelude.{◌≡◌, ℕ, ◌+◌, ◌≤◌, List, [], ◌∷◌, ◌++◌, cond, map, Some, None}
use Rattle.am_record.specs.Plain.{PlainMap}
use Rattle.am_record.specs.Records.{Records}
use Rattle.am_record.specs.Refusals.{may_make_run}
use Rattle.am_record.specs.declared.step.Op.{Op}
use Rattle.am_record.specs.declared.step.Reply.{Reply}
use Rattle.am_record.specs.declared.step.Reply.TheVariants.{Begun, Committed, Aborted}
use Rattle.am_line_wire.specs.declared.request.Request.{Request}
use Rattle.am_line_wire.specs.declared.request.Request.TheVariants.{Begin, Do, Stage, Commit, Abort}
use Rattle.am_line_dialogue.specs.Actions.{may_wait, with_staged, staged_left, stage_response}
use Rattle.am_line_dialogue.specs.Say.{DialogueState}
use Rattle.am_line_dialogue.specs.StagedLoads.{responses_to, state_behind}
use Rattle.am_line_dialogue.specs.declared.lines.ParsedLine.{ParsedLine}
use Rattle.am_line_dialogue.specs.declared.lines.ParsedLine.TheVariants.{Asked}
use Rattle.am_line_dialogue.specs.declared.response.Response.{Response}
use Rattle.am_line_dialogue.specs.declared.response.Response.TheVariants.{Replied}
use Rattle.am_replica.specs.Bodies.{replies, leaves}

-- a line between BEGIN and its end: it asks for an operation, or has records wait
pub data BlockLine : Type 0 where
  Asks : Op → BlockLine
  Stages : Records → BlockLine

abbrev pub line_request : BlockLine → Request
line_request (Asks op) = Do op
line_request (Stages records) = Stage records

abbrev pub block_lines : List BlockLine → Request → List ParsedLine
block_lines lines last = Asked Begin ∷ (map (λ line. Asked (line_request line)) lines ++ Asked last ∷ [])

-- what waits after a line that stages, and after all of them
abbrev pub staged_by : Records → Records → Records
staged_by staged records = cond (may_wait staged records) (staged ++ records) staged

abbrev pub waiting : Records → List BlockLine → Records
waiting staged [] = staged
waiting staged (Asks op ∷ lines) = waiting (staged_left staged op) lines
waiting staged (Stages records ∷ lines) = waiting (staged_by staged records) lines

-- the operations that are asked for: a load or a put takes with it what waits
abbrev pub asked_ops : Records → List BlockLine → List Op
asked_ops staged [] = []
asked_ops staged (Asks op ∷ lines) = with_staged staged op ∷ asked_ops (staged_left staged op) lines
asked_ops staged (Stages records ∷ lines) = asked_ops (staged_by staged records) lines

-- each line's response, by the replies to the operations
abbrev pub told : Records → List BlockLine → List Reply → List Response
told staged [] replies = []
told staged (Asks op ∷ lines) [] = []
told staged (Asks op ∷ lines) (reply ∷ replies) = Replied reply ∷ told (staged_left staged op) lines replies
told staged (Stages records ∷ lines) replies =
    stage_response staged records ∷ told (staged_by staged records) lines replies

abbrev pub told_alone : List BlockLine → PlainMap → List Response
told_alone lines m = told [] lines (replies (asked_ops [] lines) m)

-- how many operations may make a run
abbrev pub loads : List Op → ℕ
loads [] = 0
loads (op ∷ ops) = cond (may_make_run op) 1 0 + loads ops

-- none is active, and nothing waits
abbrev pub standing : ℕ → ℕ → ℕ → PlainMap → DialogueState
standing begun commits runs m =
    record { begun = begun; commits = commits; runs = runs; committed = m; own = None; staged = [] }

-- The block is answered as it is alone on the map, is the next commit, and leaves what it leaves alone.
pub record IsTakenAlone (begun commits runs : ℕ) (m : PlainMap) (lines : List BlockLine) : Type 0 where
  pub answers : responses_to (standing begun commits runs m) (block_lines lines Commit) ≡ map Some
      (Replied (Begun (begun + 1)) ∷ (told_alone lines m ++ Replied (Committed (commits + 1)) ∷ []))
  pub made : ℕ
  pub few : made ≤ runs + loads (asked_ops [] lines)
  pub leaves : state_behind (standing begun commits runs m) (block_lines lines Commit) ≡
      standing (begun + 1) (commits + 1) made (leaves (asked_ops [] lines) m)

-- A trial has the same answers, and leaves the map and the commits as they were.
pub record IsTried (begun commits runs : ℕ) (m : PlainMap) (lines : List BlockLine) : Type 0 where
  pub answers : responses_to (standing begun commits runs m) (block_lines lines Abort) ≡ map Some
      (Replied (Begun (begun + 1)) ∷ (told_alone lines m ++ Replied Aborted ∷ []))
  pub made : ℕ
  pub few : made ≤ runs + loads (asked_ops [] lines)
  pub leaves : state_behind (standing begun commits runs m) (block_lines lines Abort) ≡
      standing (begun + 1) commits made m
