use Rattle.std.proofs.Common.{◌≡◌, ◌<◌, ℕ, get_or, length}
use Rattle.am_store_locks.specs.Chains.{EndsAt}
use Rattle.am_store_locks.proofs.chains.ends_of.Given as goal

abbrev pub invariant-loop-at : goal.invariant-loop-at
invariant-loop-at l = record {
  long : length l.ends ≡ 129;
  ends : (chain d : ℕ) → chain < 129 → EndsAt chain l.locks l.at (get_or l.ends chain d);
}
