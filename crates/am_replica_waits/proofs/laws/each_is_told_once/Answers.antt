use Rattle.am_replica_waits.proofs.Told.{once}
use Rattle.am_replica_waits.proofs.laws.each_is_told_once.Goals as goal

pub returns : goal.returns
returns c = once
