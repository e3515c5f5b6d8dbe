use Rattle.std.proofs.Common.{◌+◌, ◌-◌, ◌<◌, ◌≤◌, length, get_or, take}
use Rattle.std.specs.List.{AllByRecursion}
use Rattle.am_index_btree.proofs.separators.pass_groups.Given as goal

-- the groups so far are below, unless one wasn't
abbrev pub invariant-group : goal.invariant-group
invariant-group l = record {
  passed : l.passed + 8 ≤ l.end;
  near : l.end ≤ length l.fronts + 8;
  below : AllByRecursion (λ other. other < l.front) (take l.passed l.fronts);
  stopped : l.passed + 8 < l.end → l.front ≤ get_or l.fronts (l.passed + 7) 0;
}

abbrev pub decreases-group : goal.decreases-group
decreases-group l = length l.fronts + 8 - l.end
