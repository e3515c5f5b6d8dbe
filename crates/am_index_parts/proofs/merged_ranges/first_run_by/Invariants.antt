use Rattle.std.proofs.Common.{ℕ, ◌<◌, List}
use Rattle.am_record.specs.declared.entry.Entry.{Entry}
use Rattle.am_index_parts.specs.MergedRanges.{AreMerged, HasNoneBefore}
use Rattle.am_index_parts.proofs.merged_ranges.first_run_by.Given as goal

abbrev pub invariant-loop-merged : goal.invariant-loop-merged
invariant-loop-merged l = (0 < l.first) × ((es : List Entry) (runs : ℕ) → AreMerged es runs l.list →
    HasNoneBefore es l.range l.first)
