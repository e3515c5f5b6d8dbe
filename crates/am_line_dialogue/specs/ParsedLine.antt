-- What a line says.
use Rattle.std.specs.Prelude.{◌≡◌, ℕ, List, Bool, true, false, Option, Some, None, Result, Ok, Err}
use Rattle.am_line_wire.specs.LineReadings.{reading, MayRead}
use Rattle.am_line_wire.specs.declared.request.Request.{Request}
use Rattle.am_line_wire.specs.declared.request.Request.TheVariants.{Stage, Merge, Clean, Hold, Who, End, Quit}
use Rattle.am_line_text.specs.declared.fault.LineFault.{LineFault}
use Rattle.am_line_dialogue.specs.declared.lines.ParsedLine.{ParsedLine}
use Rattle.am_line_dialogue.specs.declared.lines.ParsedLine.TheVariants.{Asked, Faulty, TooLong}

-- a line of the input, None where it is too long
abbrev pub Line : Type 0
Line = Option (List ℕ)

abbrev pub parsed_of : Result Request LineFault → ParsedLine
parsed_of (Ok request) = Asked request
parsed_of (Err fault) = Faulty fault

-- what a line is parsed as, where memory is found
abbrev pub parsed : Line → ParsedLine
parsed None = TooLong
parsed (Some text) = parsed_of (reading text)

-- what it may be parsed as: memory may be refused for the records that it brings
abbrev pub MayParse : Line → ParsedLine → Type 0
MayParse None h = h ≡ TooLong
MayParse (Some text) h = (read : Result Request LineFault) × MayRead (reading text) read × (h ≡ parsed_of read)

abbrev pub is_quit : ParsedLine → Bool
is_quit (Asked Quit) = true
is_quit _ = false

-- whether it is a MERGE or a CLEAN
abbrev pub is_upkeep : ParsedLine → Bool
is_upkeep (Asked (Merge limit)) = true
is_upkeep (Asked (Clean range limit)) = true
is_upkeep _ = false

abbrev pub is_stage : ParsedLine → Bool
is_stage (Asked (Stage records)) = true
is_stage _ = false

-- whether it is answered while another session holds
abbrev pub is_urgent : ParsedLine → Bool
is_urgent (Asked (Hold millis)) = true
is_urgent (Asked (Who which)) = true
is_urgent (Asked (End session)) = true
is_urgent _ = false
