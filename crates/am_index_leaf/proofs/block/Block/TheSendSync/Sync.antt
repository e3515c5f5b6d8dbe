use denote.RattleType.{RattleType}
use denote.Param.Send.{IsSync}
use Rattle.am_index_leaf.proofs.Crosses.{Block-sync}
use Rattle.am_index_leaf.specs.contracts.block.Block.{the_row}

pub sync : (T : RattleType) → IsSync T → IsSync (the_row T)
sync = Block-sync
