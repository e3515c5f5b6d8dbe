use Rattle.std.proofs.Common.{◌≡◌, take}
use Rattle.am_index_parts.specs.RunFilters.{newest_run}
use Rattle.am_index_parts.proofs.run_filters.RunFilters.newest_run.Given as goal

abbrev pub invariant-loop-at : goal.invariant-loop-at
invariant-loop-at l =
    newest_run l.self.generations.items l.number ≡ newest_run (take l.at l.self.generations.items) l.number
