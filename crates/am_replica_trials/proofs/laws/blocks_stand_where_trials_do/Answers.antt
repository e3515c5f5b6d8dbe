use Rattle.am_replica_trials.proofs.Blocks.{stands_alike}
use Rattle.am_replica_trials.proofs.laws.blocks_stand_where_trials_do.Goals as goal

pub returns : goal.returns
returns c digest own s block m has ops told sum = stands_alike digest own s block m has ops told sum
