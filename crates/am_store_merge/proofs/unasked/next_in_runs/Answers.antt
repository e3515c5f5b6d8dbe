use Rattle.std.proofs.Common.{◌+◌, ◌^◌, arith}
use Rattle.am_store_merge.proofs.Fronts.{goes_to, goes_far, is_next}
use Rattle.am_store_merge.proofs.unasked.next_in_runs.Goals as goal

pub front_with-front-requires-clause-before : goal.front_with-front-requires-clause-before
front_with-front-requires-clause-before g c =
    goes_to c.args.parts.now.entries c.next_part.ensures.sound.rising c.args.range c.loop-run.next c.in-Some.run'
    c.loop-run.front c.in-Some.ensures.passed c.loop-run.invariant.before

pub returns-in-None : goal.returns-in-None
returns-in-None g c =
    is_next c.args.parts.now.entries c.next_part.ensures.sound c.args.range (c.in-Some.run' + 1)
    c.front_with-front.result (omega (arith, c.in-None.ensures)) c.front_with-front.ensures

pub returns : goal.returns
returns g c =
    is_next c.args.parts.now.entries c.next_part.ensures.sound c.args.range (2 ^ 32) c.loop-run.front (omega arith)
    (goes_far c.args.parts.now.entries c.next_part.ensures.sound.rising c.args.range c.loop-run.next c.loop-run.front
    c.in_default.ensures.none c.loop-run.invariant.before)
