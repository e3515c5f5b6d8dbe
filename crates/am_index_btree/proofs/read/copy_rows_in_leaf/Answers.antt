use Rattle.std.proofs.Common.{◌<◌, length, ℕ, List, [], ◌∷◌, ◌++◌, get_or, sym, ap, ◌∙◌, subst, arith}
use Rattle.std.proofs.lemmas.List.{get_or_default}
use Rattle.am_record.specs.declared.entry.Entry.{Entry}
use Rattle.am_record.specs.OrderedKey.{OrderedKey}
use Rattle.am_record.proofs.Lists.{some_item}
use Rattle.am_record.specs.Plain.{Records}
use Rattle.am_index.proofs.Rows.{AreCopied, are_enough, none_copied, all_copied, ghost_passed, row_copied}
use Rattle.am_index_btree.proofs.read.copy_rows_in_leaf.Goals as goal
use Rattle.am_index_btree.proofs.read.copy_rows_in_leaf.Goals.{then-not-is_ghost+in_ok-push, else-not-is_ghost}

pub loop-at-init : goal.loop-at-init
loop-at-init c = record {
  room = c.in_ok-reserve_rows.ensures.room;
  copied = subst (λ (l : Records). AreCopied c.args.leaf.now.entries c.args.part c.args.range c.args.max
      c.args.rows.now.items
      l c.start_in_leaf-from.result) (sym c.in_ok-reserve_rows.ensures.same)
      (none_copied c.args.leaf.now.entries c.args.part c.args.range c.args.max c.args.rows.now.items c.lo.ensures.value
      c.hi.ensures.value c.start_in_leaf-from.ensures.begins c.end_in_leaf-to.ensures.ends c.requires);
}

pub loop-at-preserved : goal.loop-at-preserved
loop-at-preserved c =
    let es = c.args.leaf.now.entries in let at = c.loop-at.at in
    let inside : at < length es = omega (arith, c.loop-at-test.true, c.end_in_leaf-to.ensures.ends.in_range) in
    elim c.if-not-is_ghost.branch [
      | then-not-is_ghost+in_ok-push w ↦
          let d = some_item es at inside in
          let e : Entry = get_or es at d in
          let room : length c.loop-at.rows.items < c.args.max =
          omega (arith, c.if-len-max.false, c.len.ensures, c.loop-at.rows.ok.0) in
          rw w.rows-is (record {
            room = omega (arith, c.loop-at.invariant.room, w.in_ok-push.ensures.capacity);
            copied = row_copied es _ _ _ _ c.lo.ensures.value c.hi.ensures.value
                c.start_in_leaf-from.ensures.begins c.end_in_leaf-to.ensures.ends c.loop-at.invariant.copied e
                c.loop-at.auto.at c.loop-at-test.true inside
                (get_or_default es at d e inside) (sym (c.is_ghost.ensures d) ∙ w.if-not-is_ghost.true)
                (w.in_ok-push.ensures.items ∙ ap (λ (r : OrderedKey × List ℕ). c.loop-at.rows.items ++ r ∷ [])
                (w.record.ensures d)) room;
          })
      | else-not-is_ghost w ↦
          let d = some_item es at inside in
          let e : Entry = get_or es at d in
          rw w.rows-is (record {
            room = c.loop-at.invariant.room;
            copied = ghost_passed es _ _ _ _ c.lo.ensures.value c.hi.ensures.value
                c.start_in_leaf-from.ensures.begins c.end_in_leaf-to.ensures.ends c.loop-at.invariant.copied e
                c.loop-at.auto.at c.loop-at-test.true inside
                (get_or_default es at d e inside)
                (sym (c.is_ghost.ensures d) ∙ w.if-not-is_ghost.false);
          })
    ]

pub returns-then-len-max-clause-copied : goal.returns-then-len-max-clause-copied
returns-then-len-max-clause-copied c = are_enough _ _ _ _ _ c.loop-at.invariant.copied
    (omega (arith, c.if-len-max.true, c.len.ensures, c.loop-at.rows.ok.0))

pub returns-clause-copied : goal.returns-clause-copied
returns-clause-copied c = all_copied _ _ _ _ _
    c.lo.ensures.value c.hi.ensures.value c.start_in_leaf-from.ensures.begins c.end_in_leaf-to.ensures.ends
    c.loop-at.invariant.copied c.loop-at-test.false
