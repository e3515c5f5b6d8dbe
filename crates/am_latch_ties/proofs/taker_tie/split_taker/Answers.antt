use Rattle.std.proofs.Common.{rules, ap}
use Rattle.am_latch_ties.proofs.RuleSteps.{splits}
use Rattle.am_latch_ties.proofs.taker_tie.split_taker.Goals as goal

pub split_seat-requires : goal.split_seat-requires
split_seat-requires c = (search rules, search rules, splits _ _ _ _ (ap (λ m. m.0) c.requires.token))
