use Rattle.std.proofs.Common.{◌+◌, ◌-◌, ◌≤◌}
use Rattle.am_index_leaf.proofs.places.pass_groups.Given as goal

abbrev pub invariant-group : goal.invariant-group
invariant-group g l = record {
  passed : l.passed + 8 ≤ l.end;
  near : l.end ≤ l.len + 8;
}

abbrev pub decreases-group : goal.decreases-group
decreases-group g l = l.len + 8 - l.end
