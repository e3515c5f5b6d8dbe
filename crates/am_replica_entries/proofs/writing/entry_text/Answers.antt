use Rattle.am_replica_entries.proofs.Blocks.{each_fits}
use Rattle.am_replica_entries.proofs.writing.entry_text.Goals as goal

pub put_block-requires : goal.put_block-requires
put_block-requires c = rw c.block-item.is
    (each_fits c.args.blocks.now c.requires c.loop-block.block-index _ c.loop-block-test.true)
