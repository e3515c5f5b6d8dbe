use Rattle.std.proofs.Common.{◌≡◌, ◌++◌, map, take, drop}
use Rattle.am_replica_waits.proofs.queue.tell_numbers.Given as goal

abbrev pub invariant-loop-at : goal.invariant-loop-at
invariant-loop-at l = l.numbers ≡ map (λ w. w.number) (take l.at l.handed) ++ drop l.at l.fn.numbers
