use Rattle.std.proofs.Common.{rules}
use Rattle.am_latch_counters.proofs.Steps.{publishes}
use Rattle.am_latch_counters.proofs.counters.Counters.publish.Goals as goal

pub fetch_max-requires : goal.fetch_max-requires
fetch_max-requires c = (search rules, search rules, publishes _ _ _ _)
