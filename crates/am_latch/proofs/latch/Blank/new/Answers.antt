use Rattle.am_latch_ties.proofs.Rules.{starts}
use Rattle.am_latch_ties.proofs.RuleSteps.{starts as none_taken}
use Rattle.am_latch.proofs.latch.Blank.new.Goals as goal

pub of_words-requires : goal.of_words-requires
of_words-requires c = starts

pub of_words-requires-2 : goal.of_words-requires-2
of_words-requires-2 c = none_taken
