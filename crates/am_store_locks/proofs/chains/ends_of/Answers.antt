use Rattle.std.proofs.Common.{refl, ℕ}
use Rattle.std.proofs.lemmas.List.{length-replicate}
use Rattle.am_store_locks.proofs.LockChains.{ends-none}
use Rattle.am_store_locks.proofs.chains.ends_of.Goals as goal

pub loop-at-init : goal.loop-at-init
loop-at-init c = record {
  long = length-replicate {A = ℕ} 129 0;
  ends = ends-none c.args.locks.now _ refl;
}
