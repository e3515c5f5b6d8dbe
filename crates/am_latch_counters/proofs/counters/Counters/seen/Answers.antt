use Rattle.std.proofs.Common.{rules}
use Rattle.am_latch_counters.proofs.Steps.{sees}
use Rattle.am_latch_counters.proofs.counters.Counters.seen.Goals as goal

pub load-requires : goal.load-requires
load-requires c = (search rules, search rules, sees _ _ _)
