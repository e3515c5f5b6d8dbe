use Rattle.std.proofs.Common.{◌≡◌, ◌++◌, ◌<◌, ◌≤◌, false, take, length, sym, ap, ◌∙◌, subst, arith}
use Rattle.std.proofs.lemmas.List.{drop_all}
use Rattle.std.specs.Ordering.{is_le}
use Rattle.am_record.specs.EntryOrder.{place_cmp}
use Rattle.am_index.specs.Content.{rows_in}
use Rattle.am_index_btree.specs.Separators.{separator_place, IsChildFor}
use Rattle.am_index_btree.specs.Shape.{Shape}
use Rattle.am_index_btree.specs.Nodes.{all_entries}
use Rattle.am_index_btree.proofs.Inner.{over}
use Rattle.am_index_btree.proofs.ChildWalks.{walk_on, walk_full, walk_out, rows_from, rows_next, no_rows_left}
use Rattle.am_index_btree.proofs.node.Subtree.+copy_rows.Goals as goal
use Rattle.am_index_btree.proofs.node.Subtree.+copy_rows.Goals.{then-len-max-via-then-len-max}
use Rattle.am_index_btree.proofs.node.Subtree.+copy_rows.Goals.{then-len-max-via-else-len-max+then-not-is_reached}

pub child_near-at-requires : goal.child_near-at-requires
child_near-at-requires t c = (over c.in-Inner.is c.self.invariant c.self.view_is).asked

pub loop-at-init : goal.loop-at-init
loop-at-init t c =
    let node = over c.in-Inner.is c.self.invariant c.self.view_is in
    let child = subst (λ k. IsChildFor c.in-Inner.separators c.args.part k c.child_near-at.result) c.lo.ensures.value
    c.child_near-at.ensures in
    record {
      walked = record {
        fits = c.requires;
        same = ap (λ l. take c.args.max (c.args.rows.now.items ++ l))
            (rows_from c.args.part c.args.range _ _ _ node.inner.children _ child);
      };
      room = omega arith;
    }

pub get-requires : goal.get-requires
get-requires t c =
    let node = over c.in-Inner.is c.self.invariant c.self.view_is in
    omega (arith, node.as_many, c.loop-at-test.true, c.len-at-end.ensures, c.in-Inner.children.ok.0)

pub returns-then-len-max-clause-copied : goal.returns-then-len-max-clause-copied
returns-then-len-max-clause-copied t c =
    let node = over c.in-Inner.is c.self.invariant c.self.view_is in let range = c.args.range in
    let walked = c.loop-at.invariant.walked in
    let taken : c.loop-at.rows.items ≡ take c.args.max
    (c.args.rows.now.items ++ rows_in (all_entries c.in-Inner.children.items) c.args.part range) =
    elim c.then-len-max.branch [
      | then-len-max-via-then-len-max w ↦ walk_full walked
          (omega (arith, w.if-len-max.true, c.len.ensures, c.loop-at.rows.ok.0))
      | then-len-max-via-else-len-max+then-not-is_reached w ↦
          let within : c.loop-at.at < length c.in-Inner.separators =
          omega (arith, node.as_many, c.loop-at-test.true, c.len-at-end.ensures, c.in-Inner.children.ok.0) in
          let above : is_le (place_cmp (separator_place w.get.result) (c.args.part, range.hi)) ≡ false =
          ap (λ q. is_le (place_cmp (separator_place w.get.result) (c.args.part, q))) (sym w.hi.ensures.value) ∙
          sym w.is_reached.ensures ∙ w.if-not-is_reached.true in
          walk_out walked (no_rows_left c.args.part range _ _ _ node.inner.children _ _ within w.get.ensures above)
    ] in
    taken ∙ ap (λ (s : Shape). take c.args.max (c.args.rows.now.items ++ rows_in s.entries c.args.part range))
    (sym node.seen)

pub loop-at-preserved : goal.loop-at-preserved
loop-at-preserved t c =
    let within : c.loop-at.at < length c.in-Inner.children.items =
    omega (arith, c.loop-at-test.true, c.len-at-end.ensures, c.in-Inner.children.ok.0) in
    record {
      walked = walk_on c.loop-at.invariant.walked _ _ _
          (rows_next c.args.part c.args.range _ c.loop-at.at c.index.result.now within c.index.ensures)
          c.in_ok-copy_rows-in-Inner.ensures.copied;
      room = omega (arith, c.loop-at.invariant.room, c.in_ok-copy_rows-in-Inner.ensures.room);
    }

pub returns-after-loop-at-clause-copied : goal.returns-after-loop-at-clause-copied
returns-after-loop-at-clause-copied t c =
    let node = over c.in-Inner.is c.self.invariant c.self.view_is in let ks = c.in-Inner.children.items in
    let past : length ks ≤ c.loop-at.at =
    omega (arith, c.loop-at-test.false, c.len-at-end.ensures, c.in-Inner.children.ok.0) in
    walk_out c.loop-at.invariant.walked
    (ap (λ xs. rows_in (all_entries xs) c.args.part c.args.range) (drop_all c.loop-at.at ks past)) ∙
    ap (λ (s : Shape). take c.args.max (c.args.rows.now.items ++ rows_in s.entries c.args.part c.args.range))
    (sym node.seen)
