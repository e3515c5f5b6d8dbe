use Rattle.am_replica_blocks.proofs.Lines.{taken, tried}
use Rattle.am_replica_blocks.proofs.blocks_are_alone.Goals as goal

pub returns : goal.returns
returns c = record {
  block = λ begun commits runs m lines few room none. taken begun commits runs m lines few room none;
  trial = λ begun commits runs m lines few room. tried begun commits runs m lines few room;
}
