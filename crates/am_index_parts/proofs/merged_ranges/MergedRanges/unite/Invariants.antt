use Rattle.std.proofs.Common.{◌∷◌}
use Rattle.am_index_parts.specs.MergedRanges.{SayNoMore}
use Rattle.am_index_parts.proofs.merged_ranges.MergedRanges.unite.Given as goal

abbrev pub invariant-met : goal.invariant-met
invariant-met l = SayNoMore (l.fn.merged ∷ l.fn.self.list.items) (l.merged ∷ l.self.list.items)
