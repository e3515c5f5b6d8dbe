use Rattle.std.proofs.Common.{rules}
use Rattle.am_latch_counters.proofs.Steps.{splits}
use Rattle.am_latch_counters.proofs.counters.Counters.open.Goals as goal

pub split_seat-seat-requires : goal.split_seat-seat-requires
split_seat-seat-requires c = (search rules, search rules, splits _ _ (search rules) (search rules))
