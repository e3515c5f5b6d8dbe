-- What a session heard.
use Rattle.std.specs.Prelude.{◌≡◌, Bool, true, false}
use Rattle.am_line_dialogue.specs.ParsedLine.{Line, MayParse, is_quit}
use Rattle.am_line_dialogue.specs.declared.lines.ParsedLine.{ParsedLine}
use Rattle.am_line_session.specs.declared.heard.Heard.{Heard}
use Rattle.am_line_session.specs.declared.heard.Heard.TheVariants as heard

-- of a line that came too late nothing counts; of another what it may be parsed as
abbrev pub MayHear : Bool → Line → Heard → Type 0
MayHear true line h = h ≡ heard.Late
MayHear false line h = (parsed : ParsedLine) × MayParse line parsed × (h ≡ heard.Line parsed)

abbrev pub is_quit_heard : Heard → Bool
is_quit_heard (heard.Line parsed) = is_quit parsed
is_quit_heard heard.Late = false
