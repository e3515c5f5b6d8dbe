use Rattle.am_replica_waits.proofs.Known.{was_asked}
use Rattle.am_replica_waits.proofs.laws.what_is_known_was_asked.Goals as goal

pub returns : goal.returns
returns c = was_asked
