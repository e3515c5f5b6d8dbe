use Rattle.std.proofs.Common.{◌∙◌, sym, subst}
use Rattle.am_line_source.specs.Lines.{line_of}
use Rattle.am_line_wire.specs.declared.request.Request.{Request}
use Rattle.am_line_wire.specs.declared.request.Request.TheVariants.{Do, Stage}
use Rattle.am_line_dialogue.specs.ParsedLine.{MayParse}
use Rattle.am_line_dialogue.specs.declared.lines.ParsedLine.TheVariants.{Asked}
use Rattle.am_replica_lines.proofs.Lines.{parsed_asks}
use Rattle.am_replica_outcomes.proofs.Outcomes.{answered, staged, runs_out, ends, no_text}
use Rattle.am_replica_outcomes.proofs.outcome.put_answers.Goals as goal
use Rattle.am_replica_outcomes.proofs.outcome.put_answers.Goals.{else-loop-left-test}
use Rattle.am_replica_outcomes.proofs.outcome.put_answers.Goals.{
  then-loop-left-test+in-Asked-Do+in_ok-take_along-in-Asked-Do+in_default-split_first,
}

pub loop-left-preserved-in_ok-answer_untold-in-Asked-Do : goal.loop-left-preserved-in_ok-answer_untold-in-Asked-Do
loop-left-preserved-in_ok-answer_untold-in-Asked-Do c = record {
  goes = λ lines asks.
      let line = line_of c.cut_line.result.0.now in
      answered c.loop-left.rest.now c.cut_line.result.0.now c.cut_line.result.1.now c.loop-left.session
      c.take_along.new.session c.loop-left.told c.answer_untold.new.told c.loop-left.sink.bytes
      c.answer_untold.new.sink.bytes _ c.cut_line.ensures.cut c.in-Asked-Do.op c.in-Some.reply.now
      c.loop-left.left.now c.in-Some.others.now c.in-Some.ensures.cases.0
      (parsed_asks line (Do c.in-Asked-Do.op) (subst (λ (asked : Request). MayParse line (Asked asked))
      c.in-Asked-Do.field-0-is c.in-Asked-Do.ensures))
      (λ waits at. c.in_ok-take_along-in-Asked-Do.ensures.left waits at)
      c.in_ok-answer_untold-in-Asked-Do.ensures.written (c.loop-left.invariant.goes lines asks);
  sound = c.in_ok-answer_untold-in-Asked-Do.ensures.sound;
}

pub loop-left-preserved : goal.loop-left-preserved
loop-left-preserved c = record {
  goes = λ lines asks.
      let line = line_of c.cut_line.result.0.now in
      staged c.loop-left.rest.now c.cut_line.result.0.now c.cut_line.result.1.now c.loop-left.session
      c.stage.new.session c.loop-left.told c.respond_untold.new.told c.loop-left.sink.bytes
      c.respond_untold.new.sink.bytes _ c.cut_line.ensures.cut c.in-Asked-Stage.records
      c.in_ok-response-in-Asked-Stage.response c.loop-left.left.now
      (parsed_asks line (Stage c.in-Asked-Stage.records) (subst (λ (asked : Request). MayParse line (Asked asked))
      c.in-Asked-Stage.field-0-is c.in-Asked-Stage.ensures))
      (λ waits at. c.in_ok-response-in-Asked-Stage.ensures.says waits at)
      (λ waits at. c.in_ok-response-in-Asked-Stage.ensures.left waits at)
      c.in_ok-respond_untold-in-Asked-Stage.ensures.written (c.loop-left.invariant.goes lines asks);
  sound = c.in_ok-respond_untold-in-Asked-Stage.ensures.sound;
}

pub returns-clause-answers : goal.returns-clause-answers
returns-clause-answers c lines asks =
    let goes = c.loop-left.invariant.goes lines asks in
    elim c.loop-left-test.branch [
      | else-loop-left-test w ↦ ends c.loop-left.rest.now c.loop-left.session c.loop-left.told c.loop-left.left.now
          c.loop-left.sink.bytes _ (no_text c.loop-left.rest.now (sym c.is_empty.ensures ∙ w.loop-left-test.false)) goes
      | then-loop-left-test+in-Asked-Do+in_ok-take_along-in-Asked-Do+in_default-split_first w ↦
          let line = line_of w.cut_line.result.0.now in
          runs_out c.loop-left.rest.now w.cut_line.result.0.now w.cut_line.result.1.now c.loop-left.session
          c.loop-left.session c.loop-left.told c.loop-left.told c.loop-left.sink.bytes c.loop-left.sink.bytes _
          w.cut_line.ensures.cut w.in-Asked-Do.op c.loop-left.left.now w.in_default-split_first.ensures.cases
          (parsed_asks line (Do w.in-Asked-Do.op) (subst (λ (asked : Request). MayParse line (Asked asked))
          w.in-Asked-Do.field-0-is w.in-Asked-Do.ensures)) goes
    ]
