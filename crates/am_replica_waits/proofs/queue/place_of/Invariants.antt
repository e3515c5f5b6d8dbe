use Rattle.std.proofs.Common.{◌≡◌, false, take}
use Rattle.am_replica_waits.specs.Queues.{is_of}
use Rattle.am_replica_waits.proofs.queue.place_of.Given as goal

abbrev pub invariant-loop-at : goal.invariant-loop-at
invariant-loop-at l = is_of l.number (take l.at l.waiting) ≡ false
