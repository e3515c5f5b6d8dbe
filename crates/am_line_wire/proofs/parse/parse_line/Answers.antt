use Rattle.std.proofs.Common.{ℕ, List, subst}
use Rattle.am_line_wire.specs.LineReadings.{fields_reading, MayRead}
use Rattle.am_line_wire.proofs.GrammarReadings.{reads_what_may_be}
use Rattle.am_line_wire.proofs.parse.parse_line.Goals as goal

pub returns-clause-grammar : goal.returns-clause-grammar
returns-clause-grammar c = reads_what_may_be c.args.line.now c.parse_fields.result
    (subst (λ (fs : List (List ℕ)). MayRead (fields_reading fs) c.parse_fields.result) c.new.ensures
    c.parse_fields.ensures)

pub returns-clause-reading : goal.returns-clause-reading
returns-clause-reading c = subst (λ (fs : List (List ℕ)). MayRead (fields_reading fs) c.parse_fields.result)
    c.new.ensures c.parse_fields.ensures
