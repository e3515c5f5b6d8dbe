use Rattle.std.specs.Prelude.{IsSome}
use Rattle.std.proofs.Common.{◌≡◌, ◌<◌, [], length, length-set, set, MatchBool, sym, ap, ◌∙◌, subst, rules, arith}
use Rattle.std.proofs.lemmas.Bool.{not-true, not-false}
use Rattle.am_index.specs.Entries.{find, entry_at, remove_from}
use Rattle.am_index_leaf.specs.Bits.{removed_bit}
use Rattle.am_index_btree.specs.Ghosts.{marks_of}
use Rattle.am_index_btree.specs.Shape.{Shape}
use Rattle.am_index_btree.specs.Rooms.{KeepsRoom}
use Rattle.am_index_btree.specs.Nodes.{shape_of, leaf_shape}
use Rattle.am_index_btree.proofs.ValueRooms.{leaf_keeps}
use Rattle.am_index_btree.proofs.Inner.{over}
use Rattle.am_index_btree.proofs.Marks.{marked, marks_remove}
use Rattle.am_index_btree.proofs.ChildEdits.{removing, way_down, kept, kept_fewer, kept_some, kept_none}
use Rattle.am_index_btree.proofs.ChildEdits.{left, left_fewer, left_some}
use Rattle.am_index_btree.proofs.node.Subtree.+remove.Goals as goal
use Rattle.am_index_btree.proofs.node.Subtree.+remove.Goals.{in-Leaf, in-Inner+else-not-removed+else-len-eq1}
use Rattle.am_index_btree.proofs.node.Subtree.+remove.Goals.{then-not-removed-via-then-not-removed}
use Rattle.am_index_btree.proofs.node.Subtree.+remove.Goals.{then-not-removed-via-else-not-removed+then-len-eq1}

pub child_for-at-requires : goal.child_for-at-requires
child_for-at-requires t c = (over c.in-Inner.is c.self.invariant c.self.view_is).asked

pub index_mut-child-requires : goal.index_mut-child-requires
index_mut-child-requires t c =
    let node = over c.in-Inner.is c.self.invariant c.self.view_is in
    omega (arith, node.as_many, c.child_for-at.ensures.in_range, c.in-Inner.children.ok.0)

pub remove-removed-requires : goal.remove-removed-requires
remove-removed-requires t c =
    let node = over c.in-Inner.is c.self.invariant c.self.view_is in
    let way = way_down node c.child_for-at.ensures c.index_mut-child.ensures.value in
    let falls = way.falls in
    (search rules, (way.present c.requires.present, c.requires.some))

pub remove_from_leaf-requires : goal.remove_from_leaf-requires
remove_from_leaf-requires t c =
    let seen : c.args.self.now ≡ leaf_shape c.in-Leaf.leaf = sym c.self.view_is ∙ ap shape_of c.in-Leaf.is in
    record {
      present = subst IsSome (ap (λ (s : Shape). find s.entries c.args.part c.args.key) seen) c.requires.present;
      some = c.requires.some;
    }

pub mark-requires : goal.mark-requires
mark-requires t c =
    let node = over c.in-Inner.is c.self.invariant c.self.view_is in
    omega (arith, node.as_many, node.inner.most, c.child_for-at.ensures.in_range)

-- ---- where no child is freed

pub invariant_of-self : goal.invariant_of-self
invariant_of-self t c =
    let node = over c.in-Inner.is c.self.invariant c.self.view_is in
    let child = c.child_for-at.ensures in let here = c.index_mut-child.ensures.value in
    let e = c.remove-removed.ensures in
    let k' = c.remove-removed.new.self in
    let is = removing c.args.part c.args.key c.remove-removed.result.count _ k'.entries
    ((way_down node child here).present c.requires.present) e.others e.counted in
    let marks = marked c.in-Inner.is c.self.invariant c.child_for-at.result k' _
    (omega (arith, node.as_many, child.in_range)) c.mark.ensures in
    elim c.then-not-removed.branch [
      | then-not-removed-via-then-not-removed w ↦
          let some = subst (λ b. MatchBool b (k'.entries ≡ []) (0 < length k'.entries))
          (not-true _ w.if-not-removed.true) e.empty in
          rw w.self-inside-is ((kept node child here is k' e.depth e.others e.rooms (λ _. some)).inner, marks)
      | then-not-removed-via-else-not-removed+then-len-eq1 w ↦
          let done = kept node child here is k' e.depth e.others e.rooms
          (λ more. absurd (omega (arith, more, w.len.ensures, w.if-len-eq1.true, c.in-Inner.children.ok.0))) in
          rw w.self-inside-is (done.inner, marks)
    ]

pub returns-then-not-removed : goal.returns-then-not-removed
returns-then-not-removed t c =
    let node = over c.in-Inner.is c.self.invariant c.self.view_is in
    let child = c.child_for-at.ensures in let here = c.index_mut-child.ensures.value in
    let e = c.remove-removed.ensures in
    let way = way_down node child here in
    let k' = c.remove-removed.new.self in let n = c.remove-removed.result.count in
    let is = removing c.args.part c.args.key n _ k'.entries (way.present c.requires.present) e.others e.counted in
    elim c.then-not-removed.branch [
      | then-not-removed-via-then-not-removed w ↦
          let test = not-true _ w.if-not-removed.true in
          let some = subst (λ b. MatchBool b (k'.entries ≡ []) (0 < length k'.entries)) test e.empty in
          let done = kept node child here is k' e.depth e.others e.rooms (λ _. some) in
          rw w.self-inside-is (record {
            entry = way.entry ∙ e.entry;
            some = e.some;
            most = e.most;
            counted = kept_fewer node child here is k' e.depth e.others n e.counted;
            others = done.entries;
            depth = done.depth;
            rooms = done.rooms;
            empty = rw test (kept_some node child here is k' e.depth e.others some);
          })
      | then-not-removed-via-else-not-removed+then-len-eq1 w ↦
          let test = not-false _ w.if-not-removed.false in
          let empty = subst (λ b. MatchBool b (k'.entries ≡ []) (0 < length k'.entries)) test e.empty in
          let one : length c.in-Inner.children.items ≡ 1 =
          omega (arith, w.len.ensures, w.if-len-eq1.true, c.in-Inner.children.ok.0) in
          let done = kept node child here is k' e.depth e.others e.rooms (λ more. absurd (omega (arith, more, one))) in
          rw w.self-inside-is (record {
            entry = way.entry ∙ e.entry;
            some = e.some;
            most = e.most;
            counted = kept_fewer node child here is k' e.depth e.others n e.counted;
            others = done.entries;
            depth = done.depth;
            rooms = done.rooms;
            empty = rw test (kept_none node child here is k' e.depth e.others one empty);
          })
    ]

-- ---- where an empty child is freed

pub take_out-requires-in-Inner : goal.take_out-requires-in-Inner
take_out-requires-in-Inner t c =
    let node = over c.in-Inner.is c.self.invariant c.self.view_is in
    omega (arith, node.as_many, c.child_for-at.ensures.in_range, c.in-Inner.children.ok.0)

pub remove_bit-requires : goal.remove_bit-requires
remove_bit-requires t c =
    let node = over c.in-Inner.is c.self.invariant c.self.view_is in
    omega (arith, node.as_many, node.inner.most, c.child_for-at.ensures.in_range)

pub invariant_of-self-2 : goal.invariant_of-self-2
invariant_of-self-2 t c = elim c.match-self.branch [
  | in-Leaf w ↦
      rw w.self-inside-is (
        w.remove_from_leaf.ensures.short,
        (w.remove_from_leaf.ensures.rising, w.remove_from_leaf.ensures.room),
      )
  | in-Inner+else-not-removed+else-len-eq1 w ↦
      let node = over w.in-Inner.is c.self.invariant c.self.view_is in
      let child = w.child_for-at.ensures in let here = w.index_mut-child.ensures.value in
      let e = w.remove-removed.ensures in let k' = w.remove-removed.new.self in
      let is = removing c.args.part c.args.key w.remove-removed.result.count _ k'.entries
      ((way_down node child here).present c.requires.present) e.others e.counted in
      let empty : k'.entries ≡ [] = subst (λ b. MatchBool b (k'.entries ≡ []) (0 < length k'.entries))
      (not-false _ w.if-not-removed.false) e.empty in
      let more : 1 < length w.in-Inner.children.items =
      omega (arith, node.inner.some, w.len.ensures, w.if-len-eq1.false, w.in-Inner.children.ok.0) in
      let i = w.child_for-at.result in let ks = w.in-Inner.children.items in
      let within : i < length ks = omega (arith, node.as_many, child.in_range) in
      rw w.self-inside-is (
        (left node child here is k' e.depth e.others more empty _ _ w.take_out.ensures
            w.take_out-in-Inner.ensures.items _ w.take_out-in-Inner.ensures.capacity).inner,
        w.remove_bit.ensures ∙ ap (λ m. removed_bit m i)
            (marked w.in-Inner.is c.self.invariant i k' _ within w.mark.ensures) ∙
            marks_remove (set ks i k') i (omega (arith, within, length-set ks i k')) ∙
            sym (ap marks_of w.take_out-in-Inner.ensures.items),
      )
]

pub returns : goal.returns
returns t c = elim c.match-self.branch [
  | in-Leaf w ↦
      let seen : c.args.self.now ≡ leaf_shape w.in-Leaf.leaf = sym c.self.view_is ∙ ap shape_of w.in-Leaf.is in
      let part = c.args.part in let key = c.args.key in let e = w.remove_from_leaf.ensures in
      rw (w.result-is, w.self-inside-is) (record {
        entry = ap (λ (s : Shape). entry_at s.entries part key) seen ∙ e.entry;
        some = e.some;
        most = e.most;
        counted = e.counted ∙ sym (ap (λ (s : Shape). length s.entries) seen);
        others = e.others ∙
            sym (ap (λ (s : Shape). remove_from s.entries part key w.remove_from_leaf.result.count) seen);
        depth = sym (ap (λ (s : Shape). s.depth) seen);
        rooms = subst (λ (s : Shape). KeepsRoom s (leaf_shape w.remove_from_leaf.new.leaf)) (sym seen)
            (leaf_keeps w.in-Leaf.leaf w.remove_from_leaf.new.leaf e.room (omega (arith, e.same_room)));
        empty = e.empty;
      })
  | in-Inner+else-not-removed+else-len-eq1 w ↦
      let node = over w.in-Inner.is c.self.invariant c.self.view_is in
      let child = w.child_for-at.ensures in let here = w.index_mut-child.ensures.value in
      let e = w.remove-removed.ensures in let way = way_down node child here in
      let k' = w.remove-removed.new.self in let n = w.remove-removed.result.count in
      let is = removing c.args.part c.args.key n _ k'.entries (way.present c.requires.present) e.others e.counted in
      let empty : k'.entries ≡ [] = subst (λ b. MatchBool b (k'.entries ≡ []) (0 < length k'.entries))
      (not-false _ w.if-not-removed.false) e.empty in
      let more : 1 < length w.in-Inner.children.items =
      omega (arith, node.inner.some, w.len.ensures, w.if-len-eq1.false, w.in-Inner.children.ok.0) in
      let out = w.take_out.ensures in let gone = w.take_out-in-Inner.ensures.items in
      let done = left node child here is k' e.depth e.others more empty _ _ out gone _
      w.take_out-in-Inner.ensures.capacity in
      rw (w.result-is, w.self-inside-is) (record {
        entry = way.entry ∙ e.entry;
        some = e.some;
        most = e.most;
        counted = left_fewer node child here is k' e.depth e.others more empty _ _ out gone n e.counted;
        others = done.entries;
        depth = done.depth;
        rooms = done.rooms;
        empty = left_some node child here is k' e.depth e.others more empty _ _ out gone;
      })
]
