use Rattle.std.proofs.Common.{take}
use Rattle.am_index_parts.proofs.MeetingRuns.{HaveNamedIn}
use Rattle.am_index_parts.proofs.run_filters.RunFilters.add_runs.Given as goal

abbrev pub invariant-loop-generation : goal.invariant-loop-generation
invariant-loop-generation l =
    HaveNamedIn (take l.generation-index l.self.generations.items) l.fn.parts.items l.parts.items
