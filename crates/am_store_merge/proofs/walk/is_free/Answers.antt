use Rattle.std.proofs.Common.{rules}
use Rattle.am_store_locks.proofs.FirstOwners.{held}
use Rattle.am_store_merge.proofs.walk.is_free.Goals as goal

pub returns : goal.returns
returns c =
    let holder = held c.args.locks.now c.args.key c.exclusive_at.result c.exclusive_at.ensures.holder in
    rw holder (search rules)
