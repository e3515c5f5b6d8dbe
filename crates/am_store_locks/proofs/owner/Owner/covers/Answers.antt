use Rattle.am_store_locks.proofs.LockCounts.{cover-counted}
use Rattle.am_store_locks.proofs.owner.Owner.covers.Goals as goal

pub returns : goal.returns
returns c = cover-counted c.args.asked.now c.args.bucket c.args.self.now.locks c.lo.result c.count_at.result
    c.covering.result c.requires c.if-bucket-eq-WIDE.false c.lo.ensures.value c.count_at.ensures c.covering.ensures
