use Rattle.std.proofs.Common.{◌≡◌, ◌++◌, map, take}
use Rattle.am_index_leaf.proofs.column.extend_short.Given as goal

abbrev pub invariant-loop-at : goal.invariant-loop-at
invariant-loop-at g l = map g.E.Shortens.long l.shorts ≡ map g.E.Shortens.long l.initial.shorts
    ++ map (g.E.Shortens.of_record l.part) (take l.at l.pairs)
