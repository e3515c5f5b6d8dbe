use Rattle.std.proofs.Common.{◌≡◌, List, [], drop, length}
use Rattle.am_replica_blocks.specs.Blocks.{BlockLine, told}
use Rattle.am_replica_lines.specs.Lines.{said, asked_by}
use Rattle.am_replica_outcomes.specs.Outcomes.{response_texts}
use Rattle.am_replica_outcomes.proofs.Outcomes.{Goes}
use Rattle.am_replica_outcomes.proofs.outcome.put_answers.Given as goal

abbrev pub invariant-loop-left : goal.invariant-loop-left
invariant-loop-left l = record {
  goes : (lines : List BlockLine) → said l.text ≡ asked_by lines →
      Goes l.rest l.session l.told l.left l.sink.bytes
      (response_texts (drop l.first (told [] lines l.replies)));
  sound : l.sink.failures ≡ 0;
}

abbrev pub decreases-loop-left : goal.decreases-loop-left
decreases-loop-left l = length l.rest
