use Rattle.std.proofs.Common.{subst, sym, ap, ◌∙◌}
use Rattle.std.specs.List.{count_by}
use Rattle.am_record.specs.Locks.{is_covered}
use Rattle.am_record.specs.declared.lock.Mode.TheVariants.{Exclusive}
use Rattle.am_store_locks.specs.KeyCounts.{all_locks, may_clash}
use Rattle.am_store_locks.specs.Table.{AreAllApart}
use Rattle.am_store_locks.proofs.AllLocks.{nothing_covers}
use Rattle.am_store_locks.proofs.table.LockTable.covers.Goals as goal

pub returns-then-near-eq0 : goal.returns-then-near-eq0
returns-then-near-eq0 c =
    let near = c.near.ensures (all_locks c.self.inside.owners.items) c.self.invariant.4 ∙
    ap (λ t. count_by (may_clash Exclusive c.args.bucket) (all_locks t)) c.self.view_is in
    sym (ap (λ ls. is_covered ls c.args.asked.now) c.requires.own
    ∙ nothing_covers c.args.self.now c.args.own.now.owner c.args.bucket c.args.asked.now
    (subst AreAllApart c.self.view_is c.self.invariant.0) c.requires.bucket c.if-bucket-ne-WIDE.true
    (sym near ∙ c.if-near-eq0.true))
