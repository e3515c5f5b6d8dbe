use Rattle.std.proofs.Common.{ℕ, true, take}
use Rattle.am_index_parts.specs.RunFilters.{LivesInRun, IsNamed}
use Rattle.am_index_parts.proofs.key_look.live_in_these.Given as goal

abbrev pub invariant-loop-at : goal.invariant-loop-at
invariant-loop-at g l = (run : ℕ) → LivesInRun (g.I.PartIndex.entries l.index) l.key run →
    IsNamed true l.runs run l.number → IsNamed true (take l.at l.runs) run l.number
