use Rattle.am_replica_waits.proofs.Known.{see_all}
use Rattle.am_replica_waits.proofs.laws.reads_by_the_log_see_all_before.Goals as goal

pub returns : goal.returns
returns c = see_all
