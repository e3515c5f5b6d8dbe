use denote.RattleType.{RattleType}
use denote.Param.Send.{IsSend}
use Rattle.am_index_leaf.proofs.Crosses.{Block-send}
use Rattle.am_index_leaf.specs.contracts.block.Block.{the_row}

pub send : (T : RattleType) → IsSend T → IsSend (the_row T)
send = Block-send
