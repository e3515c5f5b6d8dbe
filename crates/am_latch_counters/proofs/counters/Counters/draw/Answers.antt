use Rattle.std.proofs.Common.{rules}
use Rattle.am_latch_counters.proofs.Steps.{draws}
use Rattle.am_latch_counters.proofs.counters.Counters.draw.Goals as goal

pub fetch_add-number-requires : goal.fetch_add-number-requires
fetch_add-number-requires c = (search rules, search rules, draws _ _ _ (search rules) (search rules))
