use Rattle.std.proofs.Common.{ap, ◌∙◌}
use Rattle.am_store_locks.specs.Table.{owner_numbers}
use Rattle.am_store_tx.proofs.Consistent.{owns, owners-with_locks, IsConsistent-locks}
use Rattle.am_store_tx.proofs.tx_table.TxTable.cut.Goals as goal

pub cut-requires-clause-owner : goal.cut-requires-clause-owner
cut-requires-clause-owner c = owns _ _ c.args.tx c.self.invariant.0 c.self.view_is c.requires.active

pub invariant_of-self : goal.invariant_of-self
invariant_of-self c = (
  IsConsistent-locks _ c.cut.new.self c.self.invariant.0
      (ap owner_numbers c.cut.ensures ∙ owners-with_locks c.self.inside.locks c.args.tx _),
  c.self.invariant.1,
)
