use Rattle.std.proofs.Common.{ℕ, true, take}
use Rattle.am_index_parts.specs.RunFilters.{LivesInRun, MayBeIn}
use Rattle.am_index_parts.proofs.key_look.live_by_filters.Given as goal

abbrev pub invariant-loop-at : goal.invariant-loop-at
invariant-loop-at g l = (run : ℕ) → LivesInRun (g.I.PartIndex.entries l.index) l.key run →
    MayBeIn true l.generations run l.number → MayBeIn true (take l.at l.generations) run l.number
