use Rattle.am_replica_trials.proofs.Bounds.{answers_short}
use Rattle.am_replica_trials.proofs.laws.answers_are_no_longer.Goals as goal

pub returns : goal.returns
returns c own m op short = answers_short own m op short
