use Rattle.std.proofs.Common.{take}
use Rattle.am_index_parts.proofs.MeetingRuns.{HaveNamed}
use Rattle.am_index_parts.proofs.run_filters.Generation.add_runs.Given as goal

abbrev pub invariant-loop-run : goal.invariant-loop-run
invariant-loop-run l = HaveNamed (take l.run-index l.self.runs.items) l.fn.parts.items l.parts.items
