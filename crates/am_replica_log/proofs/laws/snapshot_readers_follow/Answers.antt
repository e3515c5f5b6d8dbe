use Rattle.am_replica_log.proofs.Standing.{begins, follows}
use Rattle.am_replica_log.proofs.laws.snapshot_readers_follow.Goals as goal

pub returns : goal.returns
returns c = record { begins = begins; follows = follows }
