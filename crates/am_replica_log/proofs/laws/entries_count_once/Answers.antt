use Rattle.am_replica_log.proofs.Once.{once}
use Rattle.am_replica_log.proofs.laws.entries_count_once.Goals as goal

pub returns : goal.returns
returns c = once
