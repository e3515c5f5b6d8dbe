use Rattle.std.proofs.Common.{Err, ap, ◌∙◌}
use Rattle.am_replica_entries.specs.Texts.{the_block}
use Rattle.am_replica_texts.proofs.Entries.{other_line, left_waiting}
use Rattle.am_replica_texts.proofs.blocks.one_block.Goals as goal

pub returns-in-Err-OtherLine-clause-none : goal.returns-in-Err-OtherLine-clause-none
returns-in-Err-OtherLine-clause-none g c _ b is = other_line g.D.Digest.digest_of (the_block c.args.block.now)
    (c.read_block.ensures.other (c.in-Err-OtherLine.is ∙ ap Err c.in-Err-OtherLine.field-0-is)) b is

pub returns-in-Err-StillStaged-clause-none : goal.returns-in-Err-StillStaged-clause-none
returns-in-Err-StillStaged-clause-none g c _ b is = left_waiting g.D.Digest.digest_of (the_block c.args.block.now)
    (c.read_block.ensures.staged (c.in-Err-StillStaged.is ∙ ap Err c.in-Err-StillStaged.field-0-is)) b is
