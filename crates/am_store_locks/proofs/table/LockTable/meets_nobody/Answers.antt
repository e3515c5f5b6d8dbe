use Rattle.std.proofs.Common.{subst, ap, ◌∙◌, arith}
use Rattle.std.specs.List.{count_by}
use Rattle.std.proofs.lemmas.Bool.{eqb-true, leb-true}
use Rattle.am_store_locks.specs.KeyCounts.{all_locks, may_clash}
use Rattle.am_store_locks.specs.Table.{AreAllApart}
use Rattle.am_store_locks.proofs.AllLocks.{nobody_near}
use Rattle.am_store_locks.proofs.Buckets.{clashes_at}
use Rattle.am_store_locks.proofs.LockCounts.{clash-counted}
use Rattle.am_store_locks.proofs.table.LockTable.meets_nobody.Goals as goal

pub returns-then-near-eq0 : goal.returns-then-near-eq0
returns-then-near-eq0 c = λ e.
    let near = c.near-near.ensures (all_locks c.self.inside.owners.items) c.self.invariant.4 ∙
    ap (λ t. count_by (may_clash c.args.asked.now.mode c.args.bucket) (all_locks t)) c.self.view_is in
    let none = eqb-true c.near-near.result 0 e in
    nobody_near c.args.self.now c.args.own.now.owner c.args.bucket c.args.asked.now
    (subst AreAllApart c.self.view_is c.self.invariant.0) c.requires.bucket c.if-bucket-eq-WIDE.false
    (omega (arith, near, none))

pub returns-else-near-eq0 : goal.returns-else-near-eq0
returns-else-near-eq0 c = λ e.
    let asked = c.args.asked.now in
    let near = c.near-near.ensures (all_locks c.self.inside.owners.items) c.self.invariant.4 ∙
    ap (λ t. count_by (may_clash asked.mode c.args.bucket) (all_locks t)) c.self.view_is in
    let own = clash-counted asked c.args.bucket c.args.own.now.locks c.lo.result c.count_at.result c.clashing.result
    c.requires.bucket c.if-bucket-eq-WIDE.false c.lo.ensures.value c.count_at.ensures c.clashing.ensures.count ∙
    ap (count_by (clashes_at asked.range.lo asked.mode)) c.requires.own in
    let few = leb-true c.near-near.result c.clashing.result e in
    nobody_near c.args.self.now c.args.own.now.owner c.args.bucket asked
    (subst AreAllApart c.self.view_is c.self.invariant.0) c.requires.bucket c.if-bucket-eq-WIDE.false
    (omega (arith, near, own, few))
