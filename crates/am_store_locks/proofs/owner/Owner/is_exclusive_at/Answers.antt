use Rattle.std.proofs.Common.{◌&&◌, sym, ap, ◌∙◌}
use Rattle.std.proofs.Math.Dec.{ltb}
use Rattle.am_record.specs.Interval.{within}
use Rattle.am_record.specs.Locks.{is_exclusive}
use Rattle.am_store_locks.specs.OwnerLocks.{is_exclusive_at}
use Rattle.am_store_locks.proofs.LockCounts.{none_exclusive_at, list_any-counted}
use Rattle.am_store_locks.proofs.owner.Owner.is_exclusive_at.Goals as goal

pub returns-then-self : goal.returns-then-self
returns-then-self c =
    ap (ltb 0) (c.clashing.ensures.count ∙ c.count_at.ensures.exclusive) ∙
    sym (list_any-counted (λ l. is_exclusive l.mode && within l.range c.args.key) c.args.self.now.locks)

pub returns-else-self : goal.returns-else-self
returns-else-self c =
    c.if-self.false
    ∙ sym (none_exclusive_at c.args.key c.self.inside.locks.items (sym c.self.invariant.3 ∙ c.if-self.false))
    ∙ ap (is_exclusive_at c.args.key) c.self.view_is
