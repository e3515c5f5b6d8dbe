use Rattle.std.proofs.Common.{refl}
use Rattle.am_store_locks.proofs.LockChains.{AreChainsOf-none}
use Rattle.am_store_locks.proofs.chains.Chains.new.Goals as goal

pub returns-clause-chains : goal.returns-clause-chains
returns-clause-chains c = AreChainsOf-none _ _ refl c.new.ensures.items
