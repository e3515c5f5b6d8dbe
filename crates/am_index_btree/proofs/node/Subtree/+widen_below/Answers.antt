use Rattle.std.proofs.Common.{◌≡◌, IsSome, OnErr, length, sym, ap, ◌∙◌, subst, rules, arith}
use Rattle.am_index.specs.Entries.{find, IsRising}
use Rattle.am_index.specs.Rooms.{HasRoom}
use Rattle.am_index_leaf.specs.Ghosts.{has_ghost}
use Rattle.am_index_btree.specs.Shape.{Shape}
use Rattle.am_index_btree.specs.Rooms.{IsWidened}
use Rattle.am_index_btree.specs.Nodes.{shape_of, IsTree, leaf_shape}
use Rattle.am_index_btree.proofs.Inner.{over}
use Rattle.am_index_btree.proofs.Marks.{marks_are, marks_same}
use Rattle.am_index_btree.proofs.ChildEdits.{way_down, widened, room_got}
use Rattle.am_index_btree.proofs.WiderRooms.{if_ok_map, on_err_map, leaf_widened}
use Rattle.am_index_btree.proofs.node.Subtree.+widen_below.Goals as goal
use Rattle.am_index_btree.proofs.node.Subtree.+widen_below.Goals.{in-Leaf, in-Inner}

pub child_near-at-requires : goal.child_near-at-requires
child_near-at-requires t c = (over c.in-Inner.is c.self.invariant c.self.view_is).asked

pub index_mut-requires : goal.index_mut-requires
index_mut-requires t c =
    let node = over c.in-Inner.is c.self.invariant c.self.view_is in
    omega (arith, node.as_many, c.child_near-at.ensures.in_range, c.in-Inner.children.ok.0)

pub widen_below-requires : goal.widen_below-requires
widen_below-requires t c =
    let node = over c.in-Inner.is c.self.invariant c.self.view_is in
    let way = way_down node c.child_near-at.ensures c.index_mut.ensures.value in
    let falls = way.falls in
    (search rules, (way.present c.requires.present, c.requires.most))

pub widen_leaf-requires-clause-present : goal.widen_leaf-requires-clause-present
widen_leaf-requires-clause-present t c =
    let seen : c.args.self.now ≡ leaf_shape c.in-Leaf.leaf = sym c.self.view_is ∙ ap shape_of c.in-Leaf.is in
    subst IsSome (ap (λ (s : Shape). find s.entries c.args.part c.args.key) seen) c.requires.present

pub invariant_of-self : goal.invariant_of-self
invariant_of-self t c = elim c.match-self.branch [
  | in-Leaf w ↦
      let old = subst IsTree w.in-Leaf.is c.self.invariant in let e = w.widen_leaf.ensures in
      rw w.self-inside-is (
        omega (arith, old.0, ap length e.entries),
        (subst IsRising (sym e.entries) old.1.0, e.room),
      )
  | in-Inner w ↦
      let node = over w.in-Inner.is c.self.invariant c.self.view_is in
      let here = w.index_mut.ensures.value in let e = w.widen_below.ensures.widened in
      rw w.self-inside-is (
        (widened node w.child_near-at.ensures here e).0,
        marks_are w.in-Inner.is c.self.invariant ∙ marks_same w.in-Inner.children.items w.child_near-at.result
            w.index_mut.result.now w.widen_below.new.self here (ap has_ghost e.entries),
      )
]

pub returns : goal.returns
returns t c = elim c.match-self.branch [
  | in-Leaf w ↦
      let seen : c.args.self.now ≡ leaf_shape w.in-Leaf.leaf = sym c.self.view_is ∙ ap shape_of w.in-Leaf.is in
      let e = w.widen_leaf.ensures in
      rw (w.result-is, w.self-inside-is) (record {
        ok = e.ok;
        full = subst (λ (o : Shape). OnErr w.widen_leaf.result
            (¬ HasRoom o.roomy c.args.part c.args.key c.args.bytes)) (sym seen) e.full;
        widened = subst (λ (o : Shape). IsWidened o (leaf_shape w.widen_leaf.new.leaf)) (sym seen)
            (leaf_widened w.in-Leaf.leaf w.widen_leaf.new.leaf e.entries e.room e.no_less_room);
      })
  | in-Inner w ↦
      let node = over w.in-Inner.is c.self.invariant c.self.view_is in let e = w.widen_below.ensures in
      let child = w.child_near-at.ensures in let here = w.index_mut.ensures.value in
      let way = way_down node child here in
      rw (w.result-is, w.self-inside-is) (record {
        ok = if_ok_map _ _ (λ _ has. room_got node child here e.widened c.args.bytes has) w.widen_below.result e.ok;
        full = on_err_map (λ none has. none (way.room c.args.bytes c.requires.present has)) w.widen_below.result e.full;
        widened = (widened node child here e.widened).1;
      })
]
