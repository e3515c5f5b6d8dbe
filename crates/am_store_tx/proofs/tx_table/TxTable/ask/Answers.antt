use Rattle.std.proofs.Common.{◌∙◌}
use Rattle.am_record.specs.Locks.{with_lock}
use Rattle.am_store_locks.specs.Table.{locks_owned, with_locks}
use Rattle.am_store_tx.specs.Txs.{Txs}
use Rattle.am_store_tx.proofs.Consistent.{owns, IsConsistent-locks, owners-asked}
use Rattle.am_store_tx.proofs.tx_table.TxTable.ask.Goals as goal

pub ask-requires : goal.ask-requires
ask-requires c = owns _ _ c.args.tx c.self.invariant.0 c.self.view_is c.requires

pub invariant_of-self : goal.invariant_of-self
invariant_of-self c = (
  IsConsistent-locks _ c.ask.new.self c.self.invariant.0
      (owners-asked c.ask.result c.self.inside.locks c.ask.new.self c.args.tx _ c.ask.ensures.granted
      c.ask.ensures.refused),
  c.self.invariant.1,
)

pub returns-clause-granted : goal.returns-clause-granted
returns-clause-granted c = λ granted.
    (λ i. record {
      begun = c.self.inside.begun;
      active = c.self.inside.active.items;
      locks = c.ask.ensures.granted granted i;
    })
    ∙ (λ i. let t : Txs = c.self.view_is i in record t {
      locks = with_locks t.locks c.args.tx (with_lock (locks_owned t.locks c.args.tx) c.args.asked);
    })
