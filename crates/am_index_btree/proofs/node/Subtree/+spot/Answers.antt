use Rattle.std.proofs.Common.{◌≡◌, sym, ap, ◌∙◌, rules, arith}
use Rattle.am_index.specs.Entries.{find}
use Rattle.am_index_btree.specs.Shape.{Shape}
use Rattle.am_index_btree.specs.Nodes.{shape_of, leaf_shape}
use Rattle.am_index_btree.proofs.Inner.{over}
use Rattle.am_index_btree.proofs.ChildEdits.{way_down}
use Rattle.am_index_btree.proofs.ValueRooms.{tree_roomed}
use Rattle.am_index_btree.proofs.node.Subtree.+spot.Goals as goal

pub child_near-at-requires : goal.child_near-at-requires
child_near-at-requires t c = (over c.in-Inner.is c.self.invariant c.self.view_is).asked

pub index-requires : goal.index-requires
index-requires t c =
    let node = over c.in-Inner.is c.self.invariant c.self.view_is in
    omega (arith, node.as_many, c.child_near-at.ensures.in_range, c.in-Inner.children.ok.0)

pub spot-spot-requires : goal.spot-spot-requires
spot-spot-requires t c =
    let node = over c.in-Inner.is c.self.invariant c.self.view_is in
    let falls = (way_down node c.child_near-at.ensures c.index.ensures).falls in
    (search rules, tt)

pub returns-in-Inner-clause-leaf : goal.returns-in-Inner-clause-leaf
returns-in-Inner-clause-leaf t c =
    let node = over c.in-Inner.is c.self.invariant c.self.view_is in
    c.spot-spot.ensures.leaf ∙ sym (way_down node c.child_near-at.ensures c.index.ensures).found

pub returns-in-Inner-clause-roomed : goal.returns-in-Inner-clause-roomed
returns-in-Inner-clause-roomed t c = tree_roomed c.self.inside.node c.self.invariant c.args.self.now c.self.view_is

pub returns-in-Leaf-clause-leaf : goal.returns-in-Leaf-clause-leaf
returns-in-Leaf-clause-leaf t c =
    let seen : c.args.self.now ≡ leaf_shape c.in-Leaf.leaf = sym c.self.view_is ∙ ap shape_of c.in-Leaf.is in
    sym (ap (λ (s : Shape). find s.entries c.args.part c.args.key) seen)

pub returns-in-Leaf-clause-roomed : goal.returns-in-Leaf-clause-roomed
returns-in-Leaf-clause-roomed t c = tree_roomed c.self.inside.node c.self.invariant c.args.self.now c.self.view_is
