use Rattle.std.proofs.Common.{◌≡◌, take}
use Rattle.am_index_parts.specs.RunFilters.{newest_of}
use Rattle.am_index_parts.proofs.run_filters.newest_of.Given as goal

abbrev pub invariant-loop-at : goal.invariant-loop-at
invariant-loop-at l = newest_of l.runs l.number ≡ newest_of (take l.at l.runs) l.number
