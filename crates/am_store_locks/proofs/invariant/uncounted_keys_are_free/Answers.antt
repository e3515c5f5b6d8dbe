use Rattle.am_store_locks.proofs.AllLocks.{uncounted_free}
use Rattle.am_store_locks.proofs.invariant.uncounted_keys_are_free.Goals as goal

pub returns : goal.returns
returns c = uncounted_free
