-- Lines that merge or clean, and a desk that goes on.
use Rattle.std.proofs.Common.{◌≡◌, inl, inr, ℕ, List, Some, None, true, false, refl, sym, ap, ◌∙◌}
use Rattle.std.specs.Prelude.{Result}
use Rattle.std.proofs.lemmas.Bool.{true≢false}
use Rattle.am_line_wire.specs.Grammar.{brings_records}
use Rattle.am_line_wire.specs.LineReadings.{reading, MayRead}
use Rattle.am_line_wire.specs.declared.request.Request.{Request}
use Rattle.am_line_wire.specs.declared.request.Request.TheVariants.{Begin, Do, Stage, Commit, Abort, Merge}
use Rattle.am_line_wire.specs.declared.request.Request.TheVariants.{Clean, Seen, Hold}
use Rattle.am_line_wire.specs.declared.request.Request.TheVariants.{Who, End, Quit}
use Rattle.am_line_text.specs.declared.fault.LineFault.{LineFault}
use Rattle.am_line_dialogue.specs.ParsedLine.{Line, parsed, parsed_of, MayParse}
use Rattle.am_line_dialogue.specs.declared.lines.ParsedLine.{ParsedLine}
use Rattle.am_line_dialogue.specs.declared.lines.ParsedLine.TheVariants.{Asked}
use Rattle.am_replica_desk.specs.Calls.{upkeep_step}

brings_none : (request : Request) → brings_records request ≡ true → upkeep_step (Asked request) ≡ None
brings_none (Merge limit) brings = absurd (true≢false (sym brings))
brings_none (Clean range limit) brings = absurd (true≢false (sym brings))
brings_none Begin brings = refl
brings_none (Do op) brings = refl
brings_none (Stage records) brings = refl
brings_none Commit brings = refl
brings_none Abort brings = refl
brings_none Seen brings = refl
brings_none (Hold millis) brings = refl
brings_none (Who which) brings = refl
brings_none (End session) brings = refl
brings_none Quit brings = refl

read_step : (text : List ℕ) (read : Result Request LineFault) → MayRead (reading text) read →
    upkeep_step (parsed (Some text)) ≡ upkeep_step (parsed_of read)
read_step text read (inl same) = ap (λ r. upkeep_step (parsed_of r)) (sym same)
read_step text read (inr (is, (request, due, brings))) =
    ap (λ r. upkeep_step (parsed_of r)) due ∙ brings_none request brings ∙ ap (λ r. upkeep_step (parsed_of r)) (sym is)

-- memory that is refused to a line hides no merge and no clean
pub same_step : (line : Line) (found : ParsedLine) → MayParse line found → upkeep_step (parsed line) ≡ upkeep_step found
same_step None found is = ap upkeep_step (sym is)
same_step (Some text) found is = read_step text is.0 is.1 ∙ ap upkeep_step (sym is.2)
