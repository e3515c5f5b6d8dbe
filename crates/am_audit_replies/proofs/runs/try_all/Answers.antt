use Rattle.std.proofs.Common.{subst, map, take, arith}
use Rattle.am_record.specs.Plain.{Draft, fresh}
use Rattle.am_audit_replies.specs.OwnAnswers.{placed_answer, left_by_all}
use Rattle.am_audit_replies.specs.Trials.{HasTried}
use Rattle.am_audit_replies.proofs.Replays.{next_is, left_more}
use Rattle.am_audit_replies.proofs.runs.try_all.Goals as goal

pub loop-kept-preserved : goal.loop-kept-preserved
loop-kept-preserved c =
    let own = map placed_answer c.args.own.now in
    let next = next_is c.args.own.now c.loop-kept.kept-index _ c.loop-kept-test.true c.kept-item.is in
    let before = c.loop-kept.invariant.few in
    let more = c.in_ok-marks.ensures.few in
    record {
      few = omega (arith, before, more);
      tried = λ m stood.
          subst (λ (d : Draft). HasTried c.try_one.new.committed c.in_ok-marks.marks d m)
          (left_more own c.loop-kept.kept-index _ _ _ (fresh m) next)
          (c.in_ok-marks.ensures.tried (left_by_all (take c.loop-kept.kept-index own) (fresh m)) m
          (c.loop-kept.invariant.tried m stood));
    }
