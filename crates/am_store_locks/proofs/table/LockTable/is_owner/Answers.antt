use Rattle.std.proofs.Common.{ap, ◌∙◌}
use Rattle.std.specs.Option.{is_some}
use Rattle.am_store_locks.proofs.Places.{is_some-place}
use Rattle.am_store_locks.proofs.table.LockTable.is_owner.Goals as goal

pub returns : goal.returns
returns c = c.is_some.ensures ∙ ap is_some c.place_of.ensures.place ∙ is_some-place c.args.self.now c.args.tx
