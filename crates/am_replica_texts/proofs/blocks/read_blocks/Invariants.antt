use Rattle.std.proofs.Common.{take}
use Rattle.am_replica_entries.specs.Texts.{the_blocks}
use Rattle.am_replica_texts.specs.Entries.{AreBlocksOf}
use Rattle.am_replica_texts.proofs.blocks.read_blocks.Given as goal

-- the blocks so far
abbrev pub invariant-loop-block : goal.invariant-loop-block
invariant-loop-block g l = AreBlocksOf g.D.Digest.digest_of (the_blocks (take l.block-index l.entry)) l.blocks.items
