use Rattle.std.proofs.Common.{◌≡◌, ◌<◌, List, length, length-drop, take, drop, sym, ap, ◌∙◌, subst, rules, arith}
use Rattle.std.specs.Prelude.{option_copied}
use Rattle.am_record.specs.declared.entry.Entry.{Entry}
use Rattle.am_index.specs.Entries.{all_inserted, IsRising}
use Rattle.am_index.proofs.Insertions.{AllFree}
use Rattle.am_index_leaf.proofs.RisingEntries.{rising-drop}
use Rattle.am_index.proofs.Lists.{rising-take}
use Rattle.am_index.proofs.Rooms.{keep_all}
use Rattle.am_index.proofs.Searches.{whole_rest}
use Rattle.am_index_leaf.specs.Bits.{changed_bit}
use Rattle.am_index_leaf.specs.Ghosts.{has_ghost}
use Rattle.am_index_btree.specs.Shape.{Shape}
use Rattle.am_index_btree.specs.Rooms.{IsRoomed, KeepsRoom}
use Rattle.am_index_btree.specs.Nodes.{all_entries, all_roomy, shape_of, inner_shape, leaf_shape}
use Rattle.am_index_btree.proofs.EntriesBetween.{AreAmong, IsEnd, end_of, copied_or}
use Rattle.am_index_btree.proofs.Stretches.{added_further}
use Rattle.am_index_btree.proofs.Inner.{over, over_children}
use Rattle.am_index_btree.proofs.Marks.{marks_are, marks_set}
use Rattle.am_index_btree.proofs.ValueRooms.{all_have, leaf_keeps, tree_roomed}
use Rattle.am_index_btree.proofs.node.Subtree.+insert_among.Goals as goal
use Rattle.am_index_btree.proofs.node.Subtree.+insert_among.Goals.{in-Leaf, in-Inner+else-stretch-test}
use Rattle.am_index_btree.proofs.node.Subtree.+insert_among.Goals.{
  in-Inner+then-stretch-test+then-added-more+else-is_below,
}
use Rattle.am_index_btree.proofs.node.Subtree.+insert_among.Goals.{in-Inner+then-stretch-test+else-added-more}

pub stretch-init : goal.stretch-init
stretch-init t c =
    let node = over c.in-Inner.is c.self.invariant c.self.view_is in let ks = c.in-Inner.children.items in
    record {
      range = omega arith;
      so_far = record {
        inner = node.inner;
        among = tt;
        free = tt;
        entries = sym (ap (λ (s : Shape). s.entries) node.seen);
        depth = sym (ap (λ (s : Shape). s.depth) node.seen);
        rooms = subst (λ (s : Shape). KeepsRoom s (inner_shape ks)) (sym node.seen)
            (keep_all (all_roomy ks) (all_entries ks) (all_have ks node.inner.children.roomed));
      };
      marked = marks_are c.in-Inner.is c.self.invariant;
    }

pub child_for-at-requires-clause-rising : goal.child_for-at-requires-clause-rising
child_for-at-requires-clause-rising t c = (over_children c.stretch.invariant.so_far.inner).asked.rising

pub index_mut-child-requires : goal.index_mut-child-requires
index_mut-child-requires t c = omega (
  arith,
  (over_children c.stretch.invariant.so_far.inner).as_many,
  c.child_for-at.ensures.in_range,
  c.stretch.children.ok.0,
)

pub insert_among-count-requires : goal.insert_among-count-requires
insert_among-count-requires t c =
    let node = over_children c.stretch.invariant.so_far.inner in
    let deep = node.falls c.child_for-at.result c.index_mut-child.result.now
    (omega (arith, c.child_for-at.ensures.in_range, node.as_many)) c.index_mut-child.ensures.value in
    let falls : c.index_mut-child.result.now.depth < c.args.self.now.depth =
    omega (arith, deep, c.stretch.invariant.so_far.depth) in (
      search rules,
      subst IsRising (sym (whole_rest c.stretch.added c.args.more.now))
          (rising-drop c.stretch.added c.args.more.now c.requires.rising),
    )

pub mark-requires : goal.mark-requires
mark-requires t c =
    let node = over_children c.stretch.invariant.so_far.inner in
    omega (arith, node.as_many, node.inner.most, c.child_for-at.ensures.in_range)

pub stretch-preserved : goal.stretch-preserved
stretch-preserved t c =
    let ls = c.in-Inner.separators in let ks = c.stretch.children.items in let at = c.child_for-at.result in
    let k = c.index_mut-child.result.now in let e = c.insert_among-count.ensures in
    let n = c.insert_among-count.result in
    let before = c.stretch.invariant.so_far in let more = c.args.more.now in let bound = option_copied c.args.bound in
    let lt : at < length ks =
    omega (arith, c.child_for-at.ensures.in_range, (over_children before.inner).as_many) in
    let is_end : IsEnd ls ks at bound (option_copied c.or-end.result) =
    subst (IsEnd ls ks at bound) (sym (ap option_copied c.or-end.ensures ∙ copied_or c.behind.result c.args.bound))
    (end_of ls ks _ before.inner at lt bound (option_copied c.behind.result) c.behind.ensures) in
    let have : IsRoomed c.args.self.now = tree_roomed c.self.inside.node c.self.invariant c.args.self.now
    c.self.view_is in
    let rest = whole_rest c.stretch.added more in
    let so_far = added_further c.args.self.now have bound more ls ks _ c.stretch.added before at k
    c.insert_among-count.new.self lt
    c.index_mut-child.ensures.value (option_copied c.or-end.result) is_end n
    (rising-take n (drop c.stretch.added more) (rising-drop c.stretch.added more c.requires.rising))
    (subst (λ l. AreAmong k.entries (option_copied c.or-end.result) (take n l)) rest e.among)
    (subst (λ l. AllFree k.entries (take n l)) rest e.free)
    (e.added ∙ ap (λ l. all_inserted (take n l) k.entries) rest) e.depth e.rooms in
    record {
      range = omega (
        arith,
        c.stretch.invariant.range,
        e.most,
        ap (λ (l : List Entry). length l) rest,
        length-drop c.stretch.added more,
      );
      so_far = so_far;
      marked = c.mark.ensures ∙ ap (λ m. changed_bit m at (has_ghost c.insert_among-count.new.self.entries))
          c.stretch.invariant.marked ∙ marks_set ks at c.insert_among-count.new.self lt;
    }

pub invariant_of-self : goal.invariant_of-self
invariant_of-self t c = elim c.match-self.branch [
  | in-Leaf w ↦ rw w.self-inside-is (
    w.put_all_among.ensures.most,
    (w.put_all_among.ensures.rising, w.put_all_among.ensures.room),
  )
  | in-Inner+else-stretch-test w ↦
      rw w.self-inside-is (w.stretch.invariant.so_far.inner, w.stretch.invariant.marked)
  | in-Inner+then-stretch-test+then-added-more+else-is_below w ↦
      rw w.self-inside-is (w.stretch.invariant.so_far.inner, w.stretch.invariant.marked)
  | in-Inner+then-stretch-test+else-added-more w ↦
      rw w.self-inside-is (w.stretch.invariant.so_far.inner, w.stretch.invariant.marked)
]

pub returns : goal.returns
returns t c = elim c.match-self.branch [
  | in-Leaf w ↦
      let seen : c.args.self.now ≡ leaf_shape w.in-Leaf.leaf = sym c.self.view_is ∙ ap shape_of w.in-Leaf.is in
      let e = w.put_all_among.ensures in let put = take w.put_all_among.result c.args.more.now in
      rw (w.result-is, w.self-inside-is) (record {
        most = e.count;
        among = subst (λ (s : Shape). AreAmong s.entries (option_copied c.args.bound) put) (sym seen) e.among;
        free = subst (λ (s : Shape). AllFree s.entries put) (sym seen) e.free;
        added = e.added ∙ sym (ap (λ (s : Shape). all_inserted put s.entries) seen);
        depth = sym (ap (λ (s : Shape). s.depth) seen);
        rooms = subst (λ (s : Shape). KeepsRoom s (leaf_shape w.put_all_among.new.leaf)) (sym seen)
            (leaf_keeps w.in-Leaf.leaf w.put_all_among.new.leaf e.room (omega (arith, e.same_room)));
      })
  | in-Inner+else-stretch-test w ↦
      let e = w.stretch.invariant in
      rw (w.result-is, w.self-inside-is) (record {
        most = e.range;
        among = e.so_far.among;
        free = e.so_far.free;
        added = e.so_far.entries;
        depth = e.so_far.depth;
        rooms = e.so_far.rooms;
      })
  | in-Inner+then-stretch-test+then-added-more+else-is_below w ↦
      let e = w.stretch.invariant in
      rw (w.result-is, w.self-inside-is) (record {
        most = e.range;
        among = e.so_far.among;
        free = e.so_far.free;
        added = e.so_far.entries;
        depth = e.so_far.depth;
        rooms = e.so_far.rooms;
      })
  | in-Inner+then-stretch-test+else-added-more w ↦
      let e = w.stretch.invariant in
      rw (w.result-is, w.self-inside-is) (record {
        most = e.range;
        among = e.so_far.among;
        free = e.so_far.free;
        added = e.so_far.entries;
        depth = e.so_far.depth;
        rooms = e.so_far.rooms;
      })
]
