use Rattle.std.proofs.Common.{set, get_or, arith, ap, ◌∙◌}
use Rattle.am_replica_waits.proofs.Handing.{blank, tells_more}
use Rattle.am_replica_waits.proofs.queue.tell_numbers.Goals as goal

pub loop-at-preserved : goal.loop-at-preserved
loop-at-preserved c =
    ap (λ ns. set ns c.loop-at.at (get_or c.args.handed.now c.loop-at.at blank).number) c.loop-at.invariant
    ∙ tells_more c.args.handed.now c.args.numbers.now c.loop-at.at (omega arith) (omega arith)
