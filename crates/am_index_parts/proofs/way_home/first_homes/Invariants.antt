use Rattle.std.proofs.Common.{◌≡◌, ◌≤◌, ◌-◌, length}
use Rattle.am_index_parts.specs.GoingHome.{AreHomesOf}
use Rattle.am_index_parts.proofs.way_home.first_homes.Given as goal

abbrev pub invariant-take : goal.invariant-take
invariant-take l = record {
  range : l.at ≤ length l.entries;
  long : l.at ≡ length l.homes;
  homes : AreHomesOf l.entries l.homes;
}

abbrev pub decreases-take : goal.decreases-take
decreases-take l = length l.entries - l.at
