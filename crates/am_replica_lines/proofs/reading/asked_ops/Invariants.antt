use Rattle.std.proofs.Common.{◌+◌, ◌≤◌, length}
use Rattle.am_replica_lines.proofs.Lines.{Reads}
use Rattle.am_replica_lines.proofs.reading.asked_ops.Given as goal

-- the lines so far were read, and the text goes on with what is left
abbrev pub invariant-loop-rest : goal.invariant-loop-rest
invariant-loop-rest l = record {
  reads : Reads l.text l.rest l.first l.number l.told l.ops.items l.session;
  bound : l.number + length l.rest ≤ length l.text;
}

abbrev pub decreases-loop-rest : goal.decreases-loop-rest
decreases-loop-rest l = length l.rest
