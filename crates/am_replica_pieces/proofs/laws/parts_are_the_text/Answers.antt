use Rattle.am_replica_pieces.proofs.Cuts.{whole, few}
use Rattle.am_replica_pieces.proofs.laws.parts_are_the_text.Goals as goal

pub returns : goal.returns
returns c = record { whole = whole; few = few }
