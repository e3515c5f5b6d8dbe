use Rattle.std.proofs.Common.{◌≡◌, ◌-◌, ◌^◌, true}
use Rattle.am_record.specs.Interval.{key_le}
use Rattle.am_index.specs.Entries.{first_such}
use Rattle.am_store_merge.specs.Walks.{ghost_from}
use Rattle.am_store_merge.proofs.walk.first_ghost.Given as goal

abbrev pub invariant-loop-entry : goal.invariant-loop-entry
invariant-loop-entry g l = record {
  in_range : key_le l.range.lo l.key ≡ true;
  same : first_such (ghost_from l.range (l.part, l.key)) l.parts.entries ≡ first_such (ghost_from l.range l.fn.from)
      l.parts.entries;
}

abbrev pub decreases-loop-entry : goal.decreases-loop-entry
decreases-loop-entry g l = 2 ^ 32 - l.part
