use Rattle.std.proofs.Common.{◌≡◌, ◌+◌, ◌≤◌, length, drop}
use Rattle.am_replica_waits.specs.Queues.{keeps_within}
use Rattle.am_replica_waits.proofs.queue.keeps_within.Given as goal

-- those so far, and those that the rest adds behind them
abbrev pub invariant-loop-next : goal.invariant-loop-next
invariant-loop-next l = record {
  within : l.count ≤ l.next-index;
  all : l.count + length (keeps_within l.most_bytes l.size (drop l.next-index l.waiting)) ≡
      length (keeps_within l.most_bytes l.first l.waiting);
}
