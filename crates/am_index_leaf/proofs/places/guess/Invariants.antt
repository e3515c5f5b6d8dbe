use Rattle.std.proofs.Common.{◌≤◌}
use Rattle.am_index_leaf.proofs.places.guess.Given as goal

abbrev pub invariant-loop-at : goal.invariant-loop-at
invariant-loop-at g l = l.lower ≤ l.at
