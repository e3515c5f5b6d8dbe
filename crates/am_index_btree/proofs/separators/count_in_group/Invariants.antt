use Rattle.std.proofs.Common.{◌≡◌, nat_lt, take}
use Rattle.std.specs.List.{count_by}
use Rattle.am_index_btree.proofs.separators.count_in_group.Given as goal

abbrev pub invariant-loop-other : goal.invariant-loop-other
invariant-loop-other l = l.lower ≡ count_by (λ other. nat_lt other l.front) (take l.other-index l.other-items)
