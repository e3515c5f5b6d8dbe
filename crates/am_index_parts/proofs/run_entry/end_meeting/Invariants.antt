use Rattle.std.proofs.Common.{length}
use Rattle.am_index_parts.specs.RunKeys.{AreKnown}
use Rattle.am_index_parts.proofs.run_entry.end_meeting.Given as goal

abbrev pub invariant-loop-first : goal.invariant-loop-first
invariant-loop-first g l = AreKnown (g.I.PartIndex.entries l.index) l.keys

abbrev pub decreases-loop-first : goal.decreases-loop-first
decreases-loop-first g l = length l.keys.apart.list.items
