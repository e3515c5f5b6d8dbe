use Rattle.std.proofs.Common.{◌≡◌, ◌≤◌, ◌-◌, length, take}
use Rattle.am_index.specs.Rooms.{KeepRoom}
use Rattle.am_index_parts.specs.Catalogs.{IsCatalog}
use Rattle.am_index_parts.specs.Partitions.{all_settled}
use Rattle.am_index_parts.proofs.way_home.settle_all.Given as goal

abbrev pub invariant-settle : goal.invariant-settle
invariant-settle g l = record {
  range : l.count ≤ length l.entries;
  settled : g.I.PartIndex.entries l.index ≡ all_settled (take l.count l.entries)
      (g.I.PartIndex.entries l.initial.index);
  catalog : IsCatalog (g.I.PartIndex.entries l.index) l.catalog;
  rooms : KeepRoom (g.I.PartIndex.roomy l.initial.index) (g.I.PartIndex.roomy l.index) (g.I.PartIndex.entries l.index);
}

abbrev pub decreases-settle : goal.decreases-settle
decreases-settle g l = length l.entries - l.count
