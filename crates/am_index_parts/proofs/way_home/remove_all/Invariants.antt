use Rattle.std.proofs.Common.{◌≡◌, ◌≤◌, ◌-◌, ◌++◌, List, length, drop}
use Rattle.am_record.specs.declared.entry.Entry.{Entry}
use Rattle.am_index.specs.Rooms.{KeepRoom}
use Rattle.am_index_parts.proofs.way_home.remove_all.Given as goal

abbrev pub invariant-loop-gone : goal.invariant-loop-gone
invariant-loop-gone g l = record {
  most : l.gone ≤ length l.entries;
  left : (front back : List Entry) → g.I.PartIndex.entries l.initial.index ≡ front ++ (l.entries ++ back) →
      g.I.PartIndex.entries l.index ≡ front ++ (drop l.gone l.entries ++ back);
  rooms : KeepRoom (g.I.PartIndex.roomy l.initial.index) (g.I.PartIndex.roomy l.index) (g.I.PartIndex.entries l.index);
}

abbrev pub decreases-loop-gone : goal.decreases-loop-gone
decreases-loop-gone g l = length l.entries - l.gone
