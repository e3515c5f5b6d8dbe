use Rattle.std.proofs.Common.{List, length}
use Rattle.am_replica.specs.Ordered.{verdicts}
use Rattle.am_replica_blocks.specs.Blocks.{BlockLine}
use Rattle.am_replica_entries.specs.Texts.{the_blocks}
use Rattle.am_replica_outcomes.specs.Entries.{AreLinesOf, told_to_all}
use Rattle.am_replica_outcomes.proofs.Entries.{IsLeft}
use Rattle.am_replica_outcomes.proofs.entry.outcome_texts.Given as goal

abbrev pub invariant-loop-block : goal.invariant-loop-block
invariant-loop-block l = (lines : List (List BlockLine)) → AreLinesOf (the_blocks l.entry) lines →
    IsLeft (the_blocks l.blocks) (verdicts l.left) l.text.items (told_to_all (the_blocks l.entry) lines
    (verdicts l.outcomes))

abbrev pub decreases-loop-block : goal.decreases-loop-block
decreases-loop-block l = length l.blocks
