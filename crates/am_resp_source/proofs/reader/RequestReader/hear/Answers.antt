use Rattle.std.proofs.Common.{◌∙◌, refl}
use Rattle.am_resp_source.proofs.Steps.{steps_on, stops_after, whole_after}
use Rattle.am_resp_source.proofs.reader.RequestReader.hear.Goals as goal

pub returns-in-Err-clause-heard : goal.returns-in-Err-clause-heard
returns-in-Err-clause-heard c = λ came h.
    let rest = c.loop-self.rest.now in
    stops_after c.args.self.now c.loop-self.self c.step.new.self c.stop.new.self came c.args.piece.now rest _
    c.stop.result
    (c.in-Err.ensures.most ∙ c.loop-self.invariant.most)
    (λ f. c.in-Err.ensures.still (c.loop-self.invariant.still f))
    (λ f. c.loop-self.invariant.failed (c.in-Err.ensures.failed f)) h c.loop-self.invariant.taken
    (λ before at. c.stop.ensures.heard before rest (c.in-Err.ensures.stopped before at))

pub returns-then-is_whole-clause-heard : goal.returns-then-is_whole-clause-heard
returns-then-is_whole-clause-heard c = λ came h.
    let rest = c.loop-self.rest.now in
    let behind = c.in-Ok.behind.now in
    let last = c.step.new.self in
    stops_after c.args.self.now c.loop-self.self last c.finish.new.self came c.args.piece.now rest behind
    c.finish.result
    (c.in-Ok.ensures.most ∙ c.loop-self.invariant.most)
    (λ f. c.in-Ok.ensures.still (c.loop-self.invariant.still f))
    (λ f. c.loop-self.invariant.failed (c.in-Ok.ensures.failed f)) h c.loop-self.invariant.taken
    (λ before at. whole_after last c.finish.new.self before rest behind c.finish.result
    (c.if-is_whole.ensures.whole refl).0
    (c.in-Ok.ensures.taken before at) c.finish.ensures.heard)

pub loop-self-preserved : goal.loop-self-preserved
loop-self-preserved c = record {
  most = c.in-Ok.ensures.most ∙ c.loop-self.invariant.most;
  still = λ f. c.in-Ok.ensures.still (c.loop-self.invariant.still f);
  failed = λ f. c.loop-self.invariant.failed (c.in-Ok.ensures.failed f);
  taken = steps_on c.args.self.now c.loop-self.self c.step.new.self c.args.piece.now c.loop-self.rest.now
      c.in-Ok.behind.now
      c.requires.begun c.loop-self.invariant.taken c.in-Ok.ensures.taken (c.if-is_whole.ensures.open refl);
}
