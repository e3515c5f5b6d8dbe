use Rattle.std.proofs.Common.{◌≡◌, ◌∷◌, [], take}
use Rattle.am_audit_locks.specs.OnlyOwnerLocks.{only_owner, listed_locks}
use Rattle.am_audit_locks.proofs.held_locks.enter_all.Given as goal

abbrev pub invariant-loop-asked : goal.invariant-loop-asked
invariant-loop-asked l = l.table ≡ only_owner l.number (listed_locks (take l.asked-index l.listed)) ∷ []
