use Rattle.am_replica_entries.proofs.Blocks.{are_apart}
use Rattle.am_replica_entries.proofs.laws.texts_are_apart.Goals as goal

pub returns : goal.returns
returns c = are_apart
