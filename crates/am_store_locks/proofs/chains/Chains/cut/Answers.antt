use Rattle.am_store_locks.proofs.LockChains.{AreChainsOf-first}
use Rattle.am_store_locks.proofs.chains.Chains.cut.Goals as goal

pub returns-clause-chains : goal.returns-clause-chains
returns-clause-chains c = AreChainsOf-first c.args.locks.now c.requires.chains.0 _ c.args.self.now.ends
    c.args.self.now.before.items _ c.truncate.ensures.items c.ends_of-self.ensures c.requires.chains.1
