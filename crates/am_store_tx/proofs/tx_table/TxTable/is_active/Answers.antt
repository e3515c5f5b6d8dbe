use Rattle.std.proofs.Common.{ap, ◌∙◌}
use Rattle.am_store_tx.specs.Active.{is_active_in}
use Rattle.am_store_tx.specs.Txs.{Txs}
use Rattle.am_store_tx.proofs.Consistent.{is_owner-is_active_in}
use Rattle.am_store_tx.proofs.tx_table.TxTable.is_active.Goals as goal

pub returns-clause-active : goal.returns-clause-active
returns-clause-active c = c.is_owner.ensures ∙ is_owner-is_active_in _ c.args.tx c.self.invariant.0 ∙
    ap (λ (t : Txs). is_active_in t.active c.args.tx) c.self.view_is
