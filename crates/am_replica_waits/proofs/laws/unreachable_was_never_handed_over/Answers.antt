use Rattle.am_replica_waits.proofs.Told.{unreachable}
use Rattle.am_replica_waits.proofs.laws.unreachable_was_never_handed_over.Goals as goal

pub returns : goal.returns
returns c = unreachable
