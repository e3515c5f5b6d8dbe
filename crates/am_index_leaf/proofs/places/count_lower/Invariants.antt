use Rattle.std.proofs.Common.{◌≡◌, nat_lt, take}
use Rattle.std.specs.List.{count_by}
use Rattle.am_index_leaf.proofs.places.count_lower.Given as goal

abbrev pub invariant-loop-at : goal.invariant-loop-at
invariant-loop-at g l = l.lower ≡ count_by (λ p. nat_lt (g.P.Fronted.front p).1 l.front) (take l.at l.places)
