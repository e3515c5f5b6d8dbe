use Rattle.am_store_tx.proofs.Consistent.{owns}
use Rattle.am_store_tx.proofs.tx_table.TxTable.held.Goals as goal

pub held-requires : goal.held-requires
held-requires c = owns _ _ c.args.tx c.self.invariant.0 c.self.view_is c.requires
