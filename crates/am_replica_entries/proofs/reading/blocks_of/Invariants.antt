use Rattle.std.proofs.Common.{◌≡◌, ◌-◌}
use Rattle.am_replica_entries.specs.Texts.{the_blocks}
use Rattle.am_replica_entries.specs.Reading.{blocks_at}
use Rattle.am_replica_entries.proofs.Loop.{with_front}
use Rattle.am_replica_entries.proofs.reading.blocks_of.Given as goal

-- the blocks so far and those of what is left are those of all
abbrev pub invariant-loop : goal.invariant-loop
invariant-loop l = with_front (the_blocks l.found.items) (blocks_at (l.count - l.counter) l.rest) ≡ blocks_at l.count
    l.bytes
