use Rattle.am_replica_waits.proofs.Told.{others}
use Rattle.am_replica_waits.proofs.laws.others_were_handed_over.Goals as goal

pub returns : goal.returns
returns c = others
