use Rattle.std.proofs.Common.{◌≡◌, List, drop, length}
use Rattle.am_replica_blocks.specs.Blocks.{BlockLine}
use Rattle.am_replica_lines.specs.Lines.{said, asked_by}
use Rattle.am_replica_outcomes.specs.Outcomes.{conflict_texts}
use Rattle.am_replica_outcomes.proofs.Outcomes.{Fails}
use Rattle.am_replica_outcomes.proofs.outcome.put_conflicts.Given as goal

abbrev pub invariant-loop-rest : goal.invariant-loop-rest
invariant-loop-rest l = record {
  fails : (lines : List BlockLine) → said l.text ≡ asked_by lines →
      Fails l.rest l.told l.sink.bytes (conflict_texts (drop l.first lines));
  sound : l.sink.failures ≡ 0;
}

abbrev pub decreases-loop-rest : goal.decreases-loop-rest
decreases-loop-rest l = length l.rest
