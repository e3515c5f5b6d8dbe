use Rattle.std.proofs.Common.{refl}
use Rattle.am_store_locks.proofs.LockChains.{IsCountAt-two}
use Rattle.am_store_locks.proofs.chains.Chains.count_at.Goals as goal

pub returns : goal.returns
returns c = IsCountAt-two c.args.locks.now c.args.key c.args.bucket c.count_in-narrow.result c.count_in-wide.result _
    c.requires.bucket c.count_in-narrow.ensures.all c.count_in-narrow.ensures.exclusive c.count_in-wide.ensures.all
    c.count_in-wide.ensures.exclusive refl refl
