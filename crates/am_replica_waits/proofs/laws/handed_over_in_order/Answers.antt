use Rattle.am_replica_waits.proofs.Told.{in_order}
use Rattle.am_replica_waits.proofs.laws.handed_over_in_order.Goals as goal

pub returns : goal.returns
returns c = in_order
