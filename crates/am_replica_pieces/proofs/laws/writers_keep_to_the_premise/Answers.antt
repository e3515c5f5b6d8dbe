use Rattle.am_replica_pieces.proofs.OnWay.{keep_to}
use Rattle.am_replica_pieces.proofs.laws.writers_keep_to_the_premise.Goals as goal

pub returns : goal.returns
returns c = keep_to
