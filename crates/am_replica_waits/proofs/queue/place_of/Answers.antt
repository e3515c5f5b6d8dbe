use Rattle.std.proofs.Common.{arith}
use Rattle.am_replica_waits.proofs.Handing.{found}
use Rattle.am_replica_waits.proofs.queue.place_of.Goals as goal

pub returns-then-one-number : goal.returns-then-one-number
returns-then-one-number c =
    let at =
    found c.args.number c.args.waiting.now c.loop-at.at (omega arith) c.loop-at.invariant c.if-one-number.true in
    (omega arith, at.0, at.1)
