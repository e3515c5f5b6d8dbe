use Rattle.std.proofs.Common.{◌∷◌, ◌∙◌, ap, sym}
use Rattle.am_line_source.specs.Lines.{pieces_of}
use Rattle.am_replica_lines.proofs.Lines.{first_piece, last_piece}
use Rattle.am_replica_lines.proofs.line.cut_line.Goals as goal

pub returns-in-Some-clause-cut : goal.returns-in-Some-clause-cut
returns-in-Some-clause-cut c =
    first_piece c.args.bytes.now c.in-Some.line.now c.in-Some.ensures.line c.in-Some.ensures.one
    ∙ ap (λ rest. c.in-Some.line.now ∷ pieces_of rest) (sym c.split_at.ensures.back)

pub returns-in-None-clause-cut : goal.returns-in-None-clause-cut
returns-in-None-clause-cut c = last_piece c.args.bytes.now c.requires (sym c.in-None.ensures.exact)
