use Rattle.std.proofs.Common.{sym, ap, ◌∙◌}
use Rattle.am_store_locks.specs.OwnerLocks.{has_conflict}
use Rattle.am_store_locks.proofs.LockCounts.{none_conflicts, conflict-counted}
use Rattle.am_store_locks.proofs.owner.Owner.has_conflict.Goals as goal

pub returns-then-not-is_exclusive : goal.returns-then-not-is_exclusive
returns-then-not-is_exclusive c =
    sym (none_conflicts c.args.asked.now c.self.inside.locks.items (sym c.self.invariant.3 ∙ c.if-not-self.true)
    (sym c.is_exclusive.ensures ∙ c.if-not-is_exclusive.true))
    ∙ ap (has_conflict c.args.asked.now) c.self.view_is

pub returns : goal.returns
returns c = conflict-counted c.args.asked.now c.args.bucket c.args.self.now.locks c.lo.result c.count_at.result
    c.clashing.result c.requires c.if-bucket-eq-WIDE.false c.lo.ensures.value c.count_at.ensures
    c.clashing.ensures.count
