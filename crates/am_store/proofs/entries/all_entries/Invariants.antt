use Rattle.std.proofs.Common.{◌-◌, length}
use Rattle.am_store.specs.EntryWalks.{IsListed}
use Rattle.am_store.proofs.entries.all_entries.Given as goal

abbrev pub invariant-loop-next : goal.invariant-loop-next
invariant-loop-next g l = IsListed l.parts.entries l.entries.items l.next

abbrev pub decreases-loop-next : goal.decreases-loop-next
decreases-loop-next g l = length l.parts.entries - length l.entries.items
