use Rattle.std.proofs.Common.{Some, refl, ap, subst}
use Rattle.am_record.specs.declared.step.Op.{Op}
use Rattle.am_line_source.specs.Lines.{line_of}
use Rattle.am_line_wire.specs.declared.request.Request.{Request}
use Rattle.am_line_wire.specs.declared.request.Request.TheVariants.{Do, Stage}
use Rattle.am_line_dialogue.specs.ParsedLine.{MayParse}
use Rattle.am_line_dialogue.specs.declared.lines.ParsedLine.TheVariants.{Asked}
use Rattle.am_replica_blocks.specs.Blocks.{Asks, Stages}
use Rattle.am_replica_lines.proofs.Lines.{parsed_asks}
use Rattle.am_replica_lines.proofs.line.take_line.Goals as goal

pub returns-in_ok-take_along-in-Asked-Do-clause-takes : goal.returns-in_ok-take_along-in-Asked-Do-clause-takes
returns-in_ok-take_along-in-Asked-Do-clause-takes c staged at =
    let line = line_of c.args.line.now in
    record {
      line = Asks c.in-Asked-Do.op;
      asks = parsed_asks line (Do c.in-Asked-Do.op) (subst (λ (asked : Request). MayParse line (Asked asked))
          c.in-Asked-Do.field-0-is c.in-Asked-Do.ensures);
      by = ap (λ (op : Op). Some op) (c.in_ok-take_along-in-Asked-Do.ensures.asks staged at);
      left = c.in_ok-take_along-in-Asked-Do.ensures.left staged at;
    }

pub returns-in_ok-stage-in-Asked-Stage-clause-takes : goal.returns-in_ok-stage-in-Asked-Stage-clause-takes
returns-in_ok-stage-in-Asked-Stage-clause-takes c staged at =
    let line = line_of c.args.line.now in
    record {
      line = Stages c.in-Asked-Stage.records;
      asks = parsed_asks line (Stage c.in-Asked-Stage.records) (subst (λ (asked : Request). MayParse line (Asked asked))
          c.in-Asked-Stage.field-0-is c.in-Asked-Stage.ensures);
      by = refl;
      left = c.in_ok-stage-in-Asked-Stage.ensures.left staged at;
    }
