use Rattle.std.proofs.Common.{◌≡◌, ◌+◌, length, IfOk, IfSome, Option, None, Some, vec_len, sym, ap, ◌∙◌, subst}
use Rattle.std.proofs.Common.{ℕ, set, rules, arith}
use Rattle.std.specs.List.{insert}
use Rattle.am_record.proofs.Outcomes.{OnErr-from}
use Rattle.am_index.specs.Entries.{find, insert_entry}
use Rattle.am_index_leaf.specs.Ghosts.{has_ghost}
use Rattle.am_index_btree.specs.Shape.{Shape}
use Rattle.am_index_btree.specs.Nodes.{depth_of, leaf_shape, inner_shape, shape_of}
use Rattle.am_index_btree.specs.InsertResults.{Grows, NowHolds}
use Rattle.am_index_btree.specs.Rooms.{IsWidened}
use Rattle.am_index_btree.proofs.Inner.{over}
use Rattle.am_index_btree.proofs.Marks.{marked, marks_are, marks_same}
use Rattle.am_index_btree.proofs.ChildEdits.{widened}
use Rattle.am_index_btree.proofs.ChildInserts.{length_lowered}
use Rattle.am_index_btree.proofs.ValueRooms.{tree_roomed}
use Rattle.am_index_btree.proofs.WaysIn.{way_in, one_more, two_more}
use Rattle.am_index_btree.proofs.WiderRooms.{now_after, leaf_widened, unchanged, on_err_map}
use Rattle.am_index_btree.proofs.node.Subtree.+insert_below.Goals as goal
use Rattle.am_index_btree.proofs.node.Subtree.+insert_below.Goals.{in-Leaf}
use Rattle.am_index_btree.proofs.node.Subtree.+insert_below.Goals.{
  in-Inner+in_ok-more-in-Inner+in_ok-grown-in-Inner+in-Some,
}

if_some_map : {X : Type 0} (P Q : X → Type 0) → ((x : X) → P x → Q x) → (r : Option X) → IfSome r P → IfSome r Q
if_some_map P Q f None h = h
if_some_map P Q f (Some x) h = f x h

pub reached_near-reach-requires : goal.reached_near-reach-requires
reached_near-reach-requires t c = (over c.in-Inner.is c.self.invariant c.self.view_is).asked.rising

pub index_mut-child-requires : goal.index_mut-child-requires
index_mut-child-requires t c =
    let node = over c.in-Inner.is c.self.invariant c.self.view_is in
    omega (
      arith,
      node.as_many,
      node.asked.some,
      c.saturating_sub-at.ensures,
      c.reached_near-reach.ensures.in_range,
      c.in-Inner.children.ok.0,
    )

pub insert_in_leaf-requires : goal.insert_in_leaf-requires
insert_in_leaf-requires t c =
    let x = c.args.entry.now in
    let seen : c.args.self.now ≡ leaf_shape c.in-Leaf.leaf = sym c.self.view_is ∙ ap shape_of c.in-Leaf.is in
    sym (ap (λ (s : Shape). find s.entries x.part x.key) seen) ∙ c.requires

pub insert_below-requires : goal.insert_below-requires
insert_below-requires t c =
    let node = over c.in-Inner.is c.self.invariant c.self.view_is in
    let f = way_in node c.args.entry.now c.reached_near-reach.ensures c.saturating_sub-at.ensures
    c.index_mut-child.ensures.value c.requires in
    let falls = f.falls in
    (search rules, f.absent_there)

pub mark-requires : goal.mark-requires
mark-requires t c =
    let node = over c.in-Inner.is c.self.invariant c.self.view_is in
    let f = way_in node c.args.entry.now c.reached_near-reach.ensures c.saturating_sub-at.ensures
    c.index_mut-child.ensures.value c.requires in
    omega (arith, f.inside, node.inner.most)

pub invariant_of-self-in_default : goal.invariant_of-self-in_default
invariant_of-self-in_default t c =
    let x = c.args.entry.now in let k = c.index_mut-child.result.now in let k' = c.insert_below.new.self in
    let node = over c.in-Inner.is c.self.invariant c.self.view_is in
    let f = way_in node x c.reached_near-reach.ensures c.saturating_sub-at.ensures c.index_mut-child.ensures.value
    c.requires in
    let up = subst (λ g. Grows k k' x c.in_ok-more-in-Inner.more g) c.in_default.is
    c.in_ok-grown-in-Inner.ensures.ok in (
      (one_more node x c.reached_near-reach.ensures f k' _ c.lower.ensures up.0.0 up.0.1 up.1.1).inner,
      marked c.in-Inner.is c.self.invariant c.saturating_sub-at.result k' _ (omega (arith, f.inside)) c.mark.ensures,
    )

pub returns-in_default-clause-ok : goal.returns-in_default-clause-ok
returns-in_default-clause-ok t c =
    let x = c.args.entry.now in let k = c.index_mut-child.result.now in let k' = c.insert_below.new.self in
    let node = over c.in-Inner.is c.self.invariant c.self.view_is in
    let f = way_in node x c.reached_near-reach.ensures c.saturating_sub-at.ensures c.index_mut-child.ensures.value
    c.requires in
    let up = subst (λ g. Grows k k' x c.in_ok-more-in-Inner.more g) c.in_default.is
    c.in_ok-grown-in-Inner.ensures.ok in
    let done = one_more node x c.reached_near-reach.ensures f k' _ c.lower.ensures up.0.0 up.0.1 up.1.1 in
    ((done.depth, done.entries), (tt, done.rooms))

pub add_child-requires-clause-children : goal.add_child-requires-clause-children
add_child-requires-clause-children t c =
    let x = c.args.entry.now in let k = c.index_mut-child.result.now in let k' = c.insert_below.new.self in
    let node = over c.in-Inner.is c.self.invariant c.self.view_is in
    let f = way_in node x c.reached_near-reach.ensures c.saturating_sub-at.ensures c.index_mut-child.ensures.value
    c.requires in
    let up = subst (λ g. Grows k k' x c.in_ok-more-in-Inner.more g) c.in-Some.is
    c.in_ok-grown-in-Inner.ensures.ok in
    (two_more node x c.reached_near-reach.ensures f k' _ c.lower.ensures c.in-Some.split up.0 up.1.1).children

pub add_child-requires-clause-pairs : goal.add_child-requires-clause-pairs
add_child-requires-clause-pairs t c =
    let node = over c.in-Inner.is c.self.invariant c.self.view_is in
    omega (
      arith,
      node.as_many,
      ap length c.lower.ensures,
      length_lowered c.in-Inner.separators c.reached_near-reach.result c.args.entry.now,
      c.in-Inner.children.ok.0,
    )

pub add_child-requires-clause-in_range : goal.add_child-requires-clause-in_range
add_child-requires-clause-in_range t c =
    let node = over c.in-Inner.is c.self.invariant c.self.view_is in
    let f = way_in node c.args.entry.now c.reached_near-reach.ensures c.saturating_sub-at.ensures
    c.index_mut-child.ensures.value c.requires in
    omega (arith, f.inside, c.in-Inner.children.ok.0)

pub add_child-requires-clause-marked : goal.add_child-requires-clause-marked
add_child-requires-clause-marked t c =
    let node = over c.in-Inner.is c.self.invariant c.self.view_is in
    let f = way_in node c.args.entry.now c.reached_near-reach.ensures c.saturating_sub-at.ensures
    c.index_mut-child.ensures.value c.requires in
    marked c.in-Inner.is c.self.invariant c.saturating_sub-at.result c.insert_below.new.self _ (omega (arith, f.inside))
    c.mark.ensures

pub returns-clause-ok : goal.returns-clause-ok
returns-clause-ok t c = elim c.match-self.branch [
  | in-Leaf w ↦
      let seen : c.args.self.now ≡ leaf_shape w.in-Leaf.leaf = sym c.self.view_is ∙ ap shape_of w.in-Leaf.is in
      rw (w.result-is, w.self-inside-is) (subst (λ (s : Shape). IfOk w.insert_in_leaf.result
      (Grows s (leaf_shape w.insert_in_leaf.new.leaf) c.args.entry.now c.args.wanted)) (sym seen)
      w.insert_in_leaf.ensures.ok)
  | in-Inner+in_ok-more-in-Inner+in_ok-grown-in-Inner+in-Some w ↦
      let x = c.args.entry.now in let k = w.index_mut-child.result.now in let k' = w.insert_below.new.self in
      let node = over w.in-Inner.is c.self.invariant c.self.view_is in
      let f = way_in node x w.reached_near-reach.ensures w.saturating_sub-at.ensures w.index_mut-child.ensures.value
      c.requires in
      let s = w.in-Some.split in
      let up = subst (λ g. Grows k k' x w.in_ok-more-in-Inner.more g) w.in-Some.is w.in_ok-grown-in-Inner.ensures.ok in
      let done = two_more node x w.reached_near-reach.ensures f k' _ w.lower.ensures s up.0 up.1.1 in
      let new = inner_shape w.add_child.new.children.items in let out = w.add_child.result in
      let now = subst (λ (j : ℕ). NowHolds j (insert_entry c.args.self.now.entries x) new out) done.depth
      (subst (λ es. NowHolds (depth_of (set w.in-Inner.children.items w.saturating_sub-at.result k')) es new out)
      done.entries w.add_child.ensures.holds) in
      rw (w.result-is, w.self-inside-is) ((
        now,
        (
          if_some_map (λ s'. (w.in-Inner.children.len ≡ 32) ×
              (vec_len s'.spares + 1 ≡ vec_len s.spares)) (λ s'. vec_len s'.spares ≡ c.args.wanted)
              (λ s' p. omega (arith, p.1, up.1.0, w.in_ok-more-in-Inner.ensures (w.len.ensures ∙ p.0))) out
              w.add_child.ensures.spares,
          now_after c.args.self.now (inner_shape (insert (set w.in-Inner.children.items w.saturating_sub-at.result k')
              (w.saturating_sub-at.result + 1) s.right)) new
              (depth_of (set w.in-Inner.children.items w.saturating_sub-at.result k')) out done.rooms
              w.add_child.ensures.holds w.add_child.ensures.rooms,
        ),
      ))
]

-- ---- where memory was refused

pub returns-in_err-more-in-Inner-clause-err : goal.returns-in_err-more-in-Inner-clause-err
returns-in_err-more-in-Inner-clause-err t c =
    let node = over c.in-Inner.is c.self.invariant c.self.view_is in
    OnErr-from _ (subst (λ (o : Shape). IsWidened c.args.self.now o) node.seen (unchanged c.args.self.now
    (tree_roomed c.self.inside.node c.self.invariant c.args.self.now c.self.view_is)))

pub invariant_of-self-in_err-grown-in-Inner : goal.invariant_of-self-in_err-grown-in-Inner
invariant_of-self-in_err-grown-in-Inner t c =
    let here = c.index_mut-child.ensures.value in
    let node = over c.in-Inner.is c.self.invariant c.self.view_is in
    let f = way_in node c.args.entry.now c.reached_near-reach.ensures c.saturating_sub-at.ensures here c.requires in (
      (widened node f.child here c.in_err-grown-in-Inner.ensures.err).0,
      marks_are c.in-Inner.is c.self.invariant ∙
          marks_same c.in-Inner.children.items c.saturating_sub-at.result c.index_mut-child.result.now
          c.insert_below.new.self here (ap has_ghost c.in_err-grown-in-Inner.ensures.err.entries),
    )

pub returns-in_err-grown-in-Inner-clause-err : goal.returns-in_err-grown-in-Inner-clause-err
returns-in_err-grown-in-Inner-clause-err t c =
    let here = c.index_mut-child.ensures.value in
    let node = over c.in-Inner.is c.self.invariant c.self.view_is in
    let f = way_in node c.args.entry.now c.reached_near-reach.ensures c.saturating_sub-at.ensures here c.requires in
    OnErr-from _ (widened node f.child here c.in_err-grown-in-Inner.ensures.err).1

pub returns-clause-err : goal.returns-clause-err
returns-clause-err t c = elim c.match-self.branch [
  | in-Leaf w ↦
      let seen : c.args.self.now ≡ leaf_shape w.in-Leaf.leaf = sym c.self.view_is ∙ ap shape_of w.in-Leaf.is in
      let e = w.insert_in_leaf.ensures in
      rw (w.result-is, w.self-inside-is) (on_err_map
      (λ same. subst (λ (o : Shape). IsWidened o (leaf_shape w.insert_in_leaf.new.leaf)) (sym seen)
      (leaf_widened w.in-Leaf.leaf w.insert_in_leaf.new.leaf same e.room e.no_less_room)) w.insert_in_leaf.result e.err)
  | in-Inner+in_ok-more-in-Inner+in_ok-grown-in-Inner+in-Some w ↦ rw w.result-is tt
]
