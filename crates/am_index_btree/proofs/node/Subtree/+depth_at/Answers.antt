use Rattle.std.proofs.Common.{◌<◌, length, ap, rules, arith}
use Rattle.am_index_btree.specs.Shape.{Shape}
use Rattle.am_index_btree.proofs.Inner.{over, one_below}
use Rattle.am_index_btree.proofs.node.Subtree.+depth_at.Goals as goal

pub child_for-at-requires : goal.child_for-at-requires
child_for-at-requires t c = (over c.in-Inner.is c.self.invariant c.self.view_is).asked

pub index-requires : goal.index-requires
index-requires t c =
    let node = over c.in-Inner.is c.self.invariant c.self.view_is in
    omega (arith, node.as_many, c.child_for-at.ensures.in_range, c.in-Inner.children.ok.0)

pub depth_at-requires : goal.depth_at-requires
depth_at-requires t c =
    let node = over c.in-Inner.is c.self.invariant c.self.view_is in
    let within : c.child_for-at.result < length c.in-Inner.children.items =
    omega (arith, node.as_many, c.child_for-at.ensures.in_range) in
    let falls = node.falls c.child_for-at.result c.index.result.now within c.index.ensures in
    (search rules, tt)

pub returns-in-Inner : goal.returns-in-Inner
returns-in-Inner t c fits =
    let node = over c.in-Inner.is c.self.invariant c.self.view_is in
    let within : c.child_for-at.result < length c.in-Inner.children.items =
    omega (arith, node.as_many, c.child_for-at.ensures.in_range) in
    let deep = one_below _ _ _ node.inner c.child_for-at.result c.index.result.now within c.index.ensures in
    let here = ap (λ (s : Shape). s.depth) node.seen in
    let below = c.depth_at.ensures (omega (arith, fits, here, deep)) in
    omega (arith, fits, here, deep, below, c.saturating_add.ensures)
