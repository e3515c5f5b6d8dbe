use Rattle.std.proofs.Common.{◌≡◌, ◌++◌, ◌<◌, true, ℕ, ◌-◌, take, reverse, length, sym, ap}
use Rattle.std.proofs.Common.{◌∙◌, subst, rules, arith}
use Rattle.std.specs.Ordering.{is_le}
use Rattle.am_record.specs.EntryOrder.{place_cmp}
use Rattle.am_index.specs.Content.{rows_in}
use Rattle.am_index_btree.specs.Separators.{separator_place, IsChildFor}
use Rattle.am_index_btree.specs.Shape.{Shape}
use Rattle.am_index_btree.specs.Nodes.{all_entries}
use Rattle.am_index_btree.proofs.Inner.{over}
use Rattle.am_index_btree.proofs.ChildWalks.{walk_on, walk_full, walk_out, rows_up_to, rows_before, no_rows_before}
use Rattle.am_index_btree.proofs.node.Subtree.+copy_rows_back.Goals as goal
use Rattle.am_index_btree.proofs.node.Subtree.+copy_rows_back.Goals.{then-len-max-via-then-len-max}
use Rattle.am_index_btree.proofs.node.Subtree.+copy_rows_back.Goals.{then-len-max-via-else-len-max+then-is_reached}

pub child_near-end-requires-clause-rising : goal.child_near-end-requires-clause-rising
child_near-end-requires-clause-rising t c = (over c.in-Inner.is c.self.invariant c.self.view_is).asked.rising

pub overflow_add-end : goal.overflow_add-end
overflow_add-end t c =
    let node = over c.in-Inner.is c.self.invariant c.self.view_is in
    omega (arith, node.as_many, c.child_near-end.ensures.in_range, node.inner.most)

pub loop-at-init : goal.loop-at-init
loop-at-init t c =
    let node = over c.in-Inner.is c.self.invariant c.self.view_is in
    let child = subst (λ k. IsChildFor c.in-Inner.separators c.args.part k c.child_near-end.result) c.hi.ensures.value
    c.child_near-end.ensures in
    record {
      walked = record {
        fits = c.requires;
        same = ap (λ l. take c.args.max (c.args.rows.now.items ++ reverse l))
            (rows_up_to c.args.part c.args.range _ _ _ node.inner.children _ child);
      };
      room = omega arith;
    }

pub index-requires : goal.index-requires
index-requires t c =
    let node = over c.in-Inner.is c.self.invariant c.self.view_is in
    omega (
      arith,
      node.as_many,
      c.child_near-end.ensures.in_range,
      c.loop-at.auto.at,
      c.loop-at-test.true,
      c.in-Inner.children.ok.0,
    )

pub copy_rows_back-requires : goal.copy_rows_back-requires
copy_rows_back-requires t c =
    let node = over c.in-Inner.is c.self.invariant c.self.view_is in let next : ℕ = c.loop-at.at - 1 in
    let within : next < length c.in-Inner.children.items = omega (
      arith,
      node.as_many,
      c.child_near-end.ensures.in_range,
      c.loop-at.auto.at,
      c.loop-at-test.true,
    ) in
    let falls = node.falls next c.index.result.now within c.index.ensures in
    (search rules, c.loop-at.invariant.walked.fits)

pub returns-then-len-max-clause-copied : goal.returns-then-len-max-clause-copied
returns-then-len-max-clause-copied t c =
    let node = over c.in-Inner.is c.self.invariant c.self.view_is in let next : ℕ = c.loop-at.at - 1 in
    let range = c.args.range in
    let within : next < length c.in-Inner.children.items = omega (
      arith,
      node.as_many,
      c.child_near-end.ensures.in_range,
      c.loop-at.auto.at,
      c.loop-at-test.true,
    ) in
    let walked = walk_on c.loop-at.invariant.walked _ _ _ (rows_before c.args.part range _ next _ c.index.result.now
    within c.index.ensures (omega (arith, c.loop-at-test.true))) c.in_ok-copy_rows_back-in-Inner.ensures.copied in
    let taken : c.copy_rows_back.new.rows.items ≡ take c.args.max
    (c.args.rows.now.items ++ reverse (rows_in (all_entries c.in-Inner.children.items) c.args.part range)) =
    elim c.then-len-max.branch [
      | then-len-max-via-then-len-max w ↦ walk_full walked
          (omega (arith, w.if-len-max.true, c.len.ensures, c.copy_rows_back.new.rows.ok.0))
      | then-len-max-via-else-len-max+then-is_reached w ↦
          let reached : is_le (place_cmp (separator_place w.get.result) (c.args.part, range.lo)) ≡ true =
          ap (λ q. is_le (place_cmp (separator_place w.get.result) (c.args.part, q))) (sym w.lo.ensures.value) ∙
          sym w.is_reached.ensures ∙ w.if-is_reached.true in
          walk_out walked (ap reverse (no_rows_before c.args.part range _ _ _ node.inner.children next w.get.result
          (omega (arith, within, node.as_many)) w.get.ensures reached))
    ] in
    taken ∙ ap (λ (s : Shape). take c.args.max (c.args.rows.now.items ++ reverse
    (rows_in s.entries c.args.part range))) (sym node.seen)

pub loop-at-preserved : goal.loop-at-preserved
loop-at-preserved t c =
    let node = over c.in-Inner.is c.self.invariant c.self.view_is in let next : ℕ = c.loop-at.at - 1 in
    let within : next < length c.in-Inner.children.items = omega (
      arith,
      node.as_many,
      c.child_near-end.ensures.in_range,
      c.loop-at.auto.at,
      c.loop-at-test.true,
    ) in
    record {
      walked = walk_on c.loop-at.invariant.walked _ _ _ (rows_before c.args.part c.args.range _ next _
          c.index.result.now within c.index.ensures (omega (arith, c.loop-at-test.true)))
          c.in_ok-copy_rows_back-in-Inner.ensures.copied;
      room = omega (arith, c.loop-at.invariant.room, c.in_ok-copy_rows_back-in-Inner.ensures.room);
    }
