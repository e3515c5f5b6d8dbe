use Rattle.am_replica_log.proofs.Snapshots.{named_stays}
use Rattle.am_replica_log.proofs.laws.named_snapshots_stay.Goals as goal

pub returns : goal.returns
returns c = named_stays
