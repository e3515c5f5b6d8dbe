-- Records that are staged by several lines, and then loaded or put.
use Rattle.std.specs.Prelude.{◌≡◌, List, [], ◌∷◌, ◌++◌, map, Option, Some}
use Rattle.am_record.specs.Records.{Records}
use Rattle.am_record.specs.declared.step.Op.TheVariants.{Load, Put}
use Rattle.am_line_wire.specs.declared.request.Request.TheVariants.{Do, Stage}
use Rattle.am_line_dialogue.specs.Say.{DialogueState, response_due, state_after_line}
use Rattle.am_line_dialogue.specs.declared.lines.ParsedLine.{ParsedLine}
use Rattle.am_line_dialogue.specs.declared.lines.ParsedLine.TheVariants.{Asked}
use Rattle.am_line_dialogue.specs.declared.response.Response.{Response}
use Rattle.am_line_dialogue.specs.declared.response.Response.TheVariants.{Staged}

-- all records of some lines, in order
abbrev pub all_of : List Records → Records
all_of [] = []
all_of (records ∷ lines) = records ++ all_of lines

abbrev pub stage : Records → ParsedLine
stage records = Asked (Stage records)

abbrev pub load : Records → ParsedLine
load records = Asked (Do (Load records))

abbrev pub put_line : Records → ParsedLine
put_line records = Asked (Do (Put records))

-- what is said to lines that were parsed so, one after another, and where that leads
abbrev pub responses_to : DialogueState → List ParsedLine → List (Option Response)
responses_to s [] = []
responses_to s (parsed ∷ lines) = response_due s parsed ∷ responses_to (state_after_line s parsed) lines

abbrev pub state_behind : DialogueState → List ParsedLine → DialogueState
state_behind s [] = s
state_behind s (parsed ∷ lines) = state_behind (state_after_line s parsed) lines

-- Each line that stages is answered OK, the load or the put of the last records as one of all of them would be, and the
-- session goes on as after that one.
pub record IsAsOne (s : DialogueState) (staged : List Records) (line : Records → ParsedLine) (last : Records)
    : Type 0 where
  pub answers : responses_to s (map stage staged ++ line last ∷ []) ≡ map (λ _. Some Staged) staged ++
      response_due s (line (all_of staged ++ last)) ∷ []
  pub behind : state_behind s (map stage staged ++ line last ∷ []) ≡ state_after_line s (line (all_of staged ++ last))
