use Rattle.std.proofs.Common.{◌≡◌, ◌-◌, ◌^◌}
use Rattle.am_index.specs.Entries.{first_such}
use Rattle.am_store_merge.specs.Walks.{in_parts_from}
use Rattle.am_store_merge.proofs.walk.first_from.Given as goal

abbrev pub invariant-loop-run : goal.invariant-loop-run
invariant-loop-run g l = first_such (in_parts_from l.next l.range) l.parts.entries ≡ first_such
    (in_parts_from l.from l.range) l.parts.entries

abbrev pub decreases-loop-run : goal.decreases-loop-run
decreases-loop-run g l = 2 ^ 32 - l.next
