use Rattle.am_replica.proofs.ReadOnly.{reads_leave}
use Rattle.am_replica.proofs.laws.reads_leave_the_map.Goals as goal

pub returns : goal.returns
returns c = reads_leave
