use Rattle.std.proofs.Common.{◌≡◌, ◌++◌, map, take}
use Rattle.am_index_leaf.proofs.column.extend_wide.Given as goal

abbrev pub invariant-loop-at : goal.invariant-loop-at
invariant-loop-at g l = l.elements ≡ l.initial.elements ++ map (g.E.Shortens.of_record l.part) (take l.at l.pairs)
