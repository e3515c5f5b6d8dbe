use Rattle.std.proofs.Common.{◌≡◌, ◌+◌, ◌-◌, nat_eq, drop}
use Rattle.std.specs.List.{prefix_len}
use Rattle.am_index_leaf.proofs.places.count_alike.Given as goal

abbrev pub invariant-loop-at : goal.invariant-loop-at
invariant-loop-at g l =
    prefix_len (λ p. nat_eq (g.P.Fronted.front p).1 l.front) (drop l.from l.places)
    ≡ (l.at - l.from) + prefix_len (λ p. nat_eq (g.P.Fronted.front p).1 l.front) (drop l.at l.places)
