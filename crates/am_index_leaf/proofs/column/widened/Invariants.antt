use Rattle.std.proofs.Common.{◌≡◌, map, take}
use Rattle.am_index_leaf.proofs.column.widened.Given as goal

abbrev pub invariant-loop-at : goal.invariant-loop-at
invariant-loop-at g l = l.wide ≡ map g.E.Shortens.long (take l.at l.shorts)
