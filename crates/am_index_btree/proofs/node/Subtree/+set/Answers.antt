use Rattle.std.proofs.Common.{◌≡◌, Option, length, sym, ap, ◌∙◌, subst, rules, arith}
use Rattle.std.specs.Prelude.{IsSome, is_some}
use Rattle.am_index.specs.Entries.{Slot, find, set_entry}
use Rattle.am_index.specs.Content.{live_value}
use Rattle.am_index.specs.Rooms.{HasRoom}
use Rattle.am_index_btree.specs.Shape.{Shape}
use Rattle.am_index_btree.specs.Rooms.{KeepsRoom}
use Rattle.am_index_btree.specs.Nodes.{shape_of, IsTree, leaf_shape}
use Rattle.am_index_btree.proofs.ValueRooms.{leaf_fits, leaf_keeps}
use Rattle.am_index_btree.proofs.Inner.{over}
use Rattle.am_index_btree.proofs.Marks.{marked}
use Rattle.am_index_btree.proofs.ChildEdits.{writing, written_long, way_down, kept_all}
use Rattle.am_index_btree.proofs.node.Subtree.+set.Goals as goal
use Rattle.am_index_btree.proofs.node.Subtree.+set.Goals.{in-Leaf, in-Inner}

pub child_near-at-requires : goal.child_near-at-requires
child_near-at-requires t c = (over c.in-Inner.is c.self.invariant c.self.view_is).asked

pub index_mut-child-requires : goal.index_mut-child-requires
index_mut-child-requires t c =
    let node = over c.in-Inner.is c.self.invariant c.self.view_is in
    omega (arith, node.as_many, c.child_near-at.ensures.in_range, c.in-Inner.children.ok.0)

pub set-was_live-requires : goal.set-was_live-requires
set-was_live-requires t c =
    let node = over c.in-Inner.is c.self.invariant c.self.view_is in
    let way = way_down node c.child_near-at.ensures c.index_mut-child.ensures.value in
    let falls = way.falls in (
      search rules,
      (
        way.present c.requires.present,
        way.room (length c.args.value) c.requires.present c.requires.room,
      ),
    )

pub mark-requires : goal.mark-requires
mark-requires t c =
    let node = over c.in-Inner.is c.self.invariant c.self.view_is in
    omega (arith, node.as_many, node.inner.most, c.child_near-at.ensures.in_range)

pub set_in_leaf-requires-clause-fits : goal.set_in_leaf-requires-clause-fits
set_in_leaf-requires-clause-fits t c = let old = subst IsTree c.in-Leaf.is c.self.invariant in
    let seen : c.args.self.now ≡ leaf_shape c.in-Leaf.leaf = sym c.self.view_is ∙ ap shape_of c.in-Leaf.is in
    leaf_fits c.in-Leaf.leaf c.args.part c.args.key (length c.args.value) old.1.1 (omega (arith, c.len.ensures.short))
    (subst (λ (s : Shape). HasRoom s.roomy c.args.part c.args.key (length c.args.value)) seen c.requires.room)

pub set_in_leaf-requires-clause-stands : goal.set_in_leaf-requires-clause-stands
set_in_leaf-requires-clause-stands t c =
    let seen : c.args.self.now ≡ leaf_shape c.in-Leaf.leaf = sym c.self.view_is ∙ ap shape_of c.in-Leaf.is in
    subst IsSome (ap (λ (s : Shape). find s.entries c.args.part c.args.key) seen) c.requires.present

pub invariant_of-self : goal.invariant_of-self
invariant_of-self t c = elim c.match-self.branch [
  | in-Leaf w ↦
      let old = subst IsTree w.in-Leaf.is c.self.invariant in
      rw w.self-inside-is (
        omega (
          arith,
          old.0,
          ap length w.set_in_leaf.ensures.entries,
          written_long c.args.part c.args.key c.args.value c.args.is_ghost w.in-Leaf.leaf.entries,
        ),
        (w.set_in_leaf.ensures.rising, w.set_in_leaf.ensures.room),
      )
  | in-Inner w ↦
      let node = over w.in-Inner.is c.self.invariant c.self.view_is in let e = w.set-was_live.ensures in
      let here = w.index_mut-child.ensures.value in let k = w.index_mut-child.result.now in
      let is = writing c.args.part c.args.key c.args.value c.args.is_ghost k.entries in
      rw w.self-inside-is (
        (kept_all node w.child_near-at.ensures here is w.set-was_live.new.self e.depth e.entries e.rooms
            (ap length e.entries ∙ written_long c.args.part c.args.key c.args.value c.args.is_ghost k.entries)).inner,
        marked w.in-Inner.is c.self.invariant w.child_near-at.result w.set-was_live.new.self _
            (omega (arith, node.as_many, w.child_near-at.ensures.in_range)) w.mark.ensures,
      )
]

pub returns : goal.returns
returns t c = elim c.match-self.branch [
  | in-Leaf w ↦
      let seen : c.args.self.now ≡ leaf_shape w.in-Leaf.leaf = sym c.self.view_is ∙ ap shape_of w.in-Leaf.is in
      let e = w.set_in_leaf.ensures in let part = c.args.part in let key = c.args.key in
      rw (w.result-is, w.self-inside-is) (record {
        was_live = e.was_live ∙ sym (ap (λ (s : Shape). is_some (live_value (find s.entries part key))) seen);
        entries = e.entries ∙
            sym (ap (λ (s : Shape). set_entry s.entries part key c.args.value c.args.is_ghost) seen);
        depth = sym (ap (λ (s : Shape). s.depth) seen);
        rooms = subst (λ (s : Shape). KeepsRoom s (leaf_shape w.set_in_leaf.new.leaf)) (sym seen)
            (leaf_keeps w.in-Leaf.leaf w.set_in_leaf.new.leaf e.room (omega (arith, e.same_room)));
      })
  | in-Inner w ↦
      let node = over w.in-Inner.is c.self.invariant c.self.view_is in let e = w.set-was_live.ensures in
      let child = w.child_near-at.ensures in let here = w.index_mut-child.ensures.value in
      let k = w.index_mut-child.result.now in
      let is = writing c.args.part c.args.key c.args.value c.args.is_ghost k.entries in
      let done = kept_all node child here is w.set-was_live.new.self e.depth e.entries e.rooms
      (ap length e.entries ∙ written_long c.args.part c.args.key c.args.value c.args.is_ghost k.entries) in
      rw (w.result-is, w.self-inside-is) (record {
        was_live = e.was_live ∙ sym (ap (λ (o : Option Slot). is_some (live_value o)) (way_down node child here).found);
        entries = done.entries;
        depth = done.depth;
        rooms = done.rooms;
      })
]
