use Rattle.std.proofs.Common.{ℕ, List, drop, sym, subst}
use Rattle.am_replica_outcomes.specs.Outcomes.{conflict_texts}
use Rattle.am_replica_outcomes.proofs.Outcomes.{Fails, fails, failed_before}
use Rattle.am_replica_outcomes.proofs.outcome.put_conflicts.Goals as goal

pub loop-rest-preserved-in_ok-put : goal.loop-rest-preserved-in_ok-put
loop-rest-preserved-in_ok-put c = record {
  fails = λ lines asks.
      subst (λ (text : List ℕ). Fails c.cut_line.result.1.now c.loop-rest.told text
      (conflict_texts (drop c.args.first lines)))
      (sym c.in_ok-put.ensures.text)
      (fails c.loop-rest.rest.now c.cut_line.result.0.now c.cut_line.result.1.now c.loop-rest.told
      c.loop-rest.sink.bytes _ c.cut_line.ensures.cut c.if-told-eq0.true (c.loop-rest.invariant.fails lines asks));
  sound = c.in_ok-put.ensures.sound;
}

pub loop-rest-preserved : goal.loop-rest-preserved
loop-rest-preserved c = record {
  fails = λ lines asks.
      failed_before c.loop-rest.rest.now c.cut_line.result.0.now c.cut_line.result.1.now c.loop-rest.told
      c.loop-rest.sink.bytes _ c.cut_line.ensures.cut c.if-told-eq0.false (c.loop-rest.invariant.fails lines asks);
  sound = c.loop-rest.invariant.sound;
}
