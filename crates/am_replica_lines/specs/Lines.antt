-- A block's lines, as the session of a store takes them between BEGIN and COMMIT.
use Rattle.std.specs.Prelude.{◌≡◌, ◌≢◌, ℕ, List, [], ◌∷◌, length, take, map, Bool, true, false, Option, Some, None}
use Rattle.am_record.specs.Records.{Records}
use Rattle.am_record.specs.declared.step.Op.{Op}
use Rattle.am_record.specs.declared.step.Reply.{Reply}
use Rattle.am_line_source.specs.Lines.{lines_of}
use Rattle.am_line_wire.specs.declared.request.Request.TheVariants.{Do, Stage}
use Rattle.am_line_dialogue.specs.Actions.{with_staged}
use Rattle.am_line_dialogue.specs.ParsedLine.{parsed}
use Rattle.am_line_dialogue.specs.Session.{SessionState}
use Rattle.am_line_dialogue.specs.declared.lines.ParsedLine.{ParsedLine}
use Rattle.am_line_dialogue.specs.declared.lines.ParsedLine.TheVariants.{Asked}
use Rattle.am_replica_entries.specs.declared.block.Told.{Told}
use Rattle.am_replica_entries.specs.Texts.{TheBlock}
use Rattle.am_replica.specs.Ordered.{Sum}
use Rattle.am_replica.specs.declared.block.Block.{Block}
use Rattle.am_replica_blocks.specs.Blocks.{BlockLine, Asks, Stages, line_request, waiting, asked_ops}

-- what the lines of a text say, and what the lines of a block do
abbrev pub said : List ℕ → List ParsedLine
said text = map parsed (lines_of text)

abbrev pub asked_by : List BlockLine → List ParsedLine
asked_by lines = map (λ line. Asked (line_request line)) lines

-- whether a line asks for an operation, or has records wait
abbrev pub is_own : ParsedLine → Bool
is_own (Asked (Do op)) = true
is_own (Asked (Stage records)) = true
is_own parsed = false

-- a session in whose transaction these records wait
abbrev pub at_work : Records → SessionState
at_work staged = record { active = Some 1; staged = staged }

-- the operation that a line asks for with what waits
abbrev pub op_by : Records → BlockLine → Option Op
op_by staged (Asks op) = Some (with_staged staged op)
op_by staged (Stages records) = None

-- the line is one of a block's: it asks for this operation, and leaves the session there
pub record TakesLine (staged : Records) (says : ParsedLine) (op : Option Op) (after : SessionState) : Type 0 where
  pub line : BlockLine
  pub asks : says ≡ Asked (line_request line)
  pub by : op ≡ op_by staged line
  pub left : after ≡ at_work (waiting staged (line ∷ []))

-- a text's lines are a block's, of which none leaves records waiting: their operations, and how many of these the first
-- lines ask for
pub record AsksOps (text : List ℕ) (first : ℕ) (ops : List Op) (told : ℕ) : Type 0 where
  pub lines : List BlockLine
  pub asks : said text ≡ asked_by lines
  pub all : ops ≡ asked_ops [] lines
  pub none_waits : waiting [] lines ≡ []
  pub of_first : told ≡ length (asked_ops [] (take first lines))

-- they are a block's, but records wait at their end
pub record LeavesWaiting (text : List ℕ) : Type 0 where
  pub lines : List BlockLine
  pub asks : said text ≡ asked_by lines
  pub some_wait : waiting [] lines ≢ []

-- how many lines were answered, and the digest of their answers
abbrev pub told_lines : Option Told → ℕ
told_lines None = 0
told_lines (Some t) = t.lines

abbrev pub told_sum : (List Reply → Sum) → Option Told → Sum
told_sum digest None = digest []
told_sum digest (Some t) = t.digest

-- the block of an entry, as a replica takes it
pub record IsBlockOf (digest : List Reply → Sum) (entry : TheBlock) (block : Block) : Type 0 where
  pub lines : AsksOps entry.lines (told_lines entry.told) block.ops.items block.told
  pub sum : block.digest ≡ told_sum digest entry.told
