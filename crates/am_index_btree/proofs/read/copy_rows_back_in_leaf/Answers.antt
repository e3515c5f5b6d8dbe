use Rattle.std.proofs.Common.{◌≡◌, ◌+◌, ◌-◌, ◌<◌, ◌≤◌, length, ℕ, List, [], ◌∷◌, ◌++◌, get_or, sym, ap, ◌∙◌, subst}
use Rattle.std.proofs.Common.{arith}
use Rattle.std.proofs.lemmas.List.{get_or_default}
use Rattle.am_record.specs.declared.entry.Entry.{Entry}
use Rattle.am_record.specs.OrderedKey.{OrderedKey}
use Rattle.am_record.proofs.Lists.{some_item}
use Rattle.am_record.specs.Plain.{Records}
use Rattle.am_index.proofs.Rows.{AreCopiedBack, are_enough_back, none_copied_back, all_copied_back, ghost_passed_back}
use Rattle.am_index.proofs.Rows.{row_copied_back}
use Rattle.am_index_btree.proofs.read.copy_rows_back_in_leaf.Goals as goal

pub loop-at-init : goal.loop-at-init
loop-at-init c = record {
  room = c.in_ok-reserve_rows.ensures.room;
  copied = subst (λ (l : Records). AreCopiedBack c.args.leaf.now.entries c.args.part c.args.range c.args.max
      c.args.rows.now.items
      l c.end_in_leaf-to.result) (sym c.in_ok-reserve_rows.ensures.same)
      (none_copied_back c.args.leaf.now.entries c.args.part c.args.range c.args.max c.args.rows.now.items
      c.lo.ensures.value c.hi.ensures.value c.end_back_in_leaf-from.ensures.ends c.end_in_leaf-to.ensures.ends
      c.requires);
}

pub loop-at-preserved-in-Continue-branch-2 : goal.loop-at-preserved-in-Continue-branch-2
loop-at-preserved-in-Continue-branch-2 c =
    let es = c.args.leaf.now.entries in let next : ℕ = c.loop-at.at - 1 in
    let there : c.loop-at.at ≡ next + 1 = omega (arith, c.loop-at-test.true) in
    let low : c.end_back_in_leaf-from.result ≤ next = omega (arith, c.loop-at-test.true) in
    let high : next < c.end_in_leaf-to.result = omega (arith, c.loop-at-test.true, c.loop-at.auto.at) in
    let inside : next < length es = omega (arith, high, c.end_in_leaf-to.ensures.ends.in_range) in
    let d = some_item es next inside in
    let e : Entry = get_or es next d in
    let room : length c.loop-at.rows.items < c.args.max =
    omega (arith, c.if-len-max.false, c.len.ensures, c.loop-at.rows.ok.0) in
    record {
      room = omega (arith, c.loop-at.invariant.room, c.in_ok-push.ensures.capacity);
      copied = row_copied_back es _ _ _ _ c.lo.ensures.value c.hi.ensures.value
          c.end_back_in_leaf-from.ensures.ends c.end_in_leaf-to.ensures.ends c.loop-at.invariant.copied e next there low
          high inside
          (get_or_default es next d e inside) (sym (c.is_ghost.ensures d) ∙ c.if-not-is_ghost.true)
          (c.in_ok-push.ensures.items ∙ ap (λ (r : OrderedKey × List ℕ). c.loop-at.rows.items ++ r ∷ [])
          (c.record.ensures d)) room;
    }

pub loop-at-preserved : goal.loop-at-preserved
loop-at-preserved c =
    let es = c.args.leaf.now.entries in let next : ℕ = c.loop-at.at - 1 in
    let there : c.loop-at.at ≡ next + 1 = omega (arith, c.loop-at-test.true) in
    let low : c.end_back_in_leaf-from.result ≤ next = omega (arith, c.loop-at-test.true) in
    let high : next < c.end_in_leaf-to.result = omega (arith, c.loop-at-test.true, c.loop-at.auto.at) in
    let inside : next < length es = omega (arith, high, c.end_in_leaf-to.ensures.ends.in_range) in
    let d = some_item es next inside in
    let e : Entry = get_or es next d in
    record {
      room = c.loop-at.invariant.room;
      copied = ghost_passed_back es _ _ _ _ c.lo.ensures.value c.hi.ensures.value
          c.end_back_in_leaf-from.ensures.ends c.end_in_leaf-to.ensures.ends c.loop-at.invariant.copied e next there low
          high inside
          (get_or_default es next d e inside) (sym (c.is_ghost.ensures d) ∙ c.if-not-is_ghost.false);
    }

pub returns-then-len-max-clause-copied : goal.returns-then-len-max-clause-copied
returns-then-len-max-clause-copied c = are_enough_back _ _ _ _ _ c.loop-at.invariant.copied
    (omega (arith, c.if-len-max.true, c.len.ensures, c.loop-at.rows.ok.0))

pub returns-clause-copied : goal.returns-clause-copied
returns-clause-copied c = all_copied_back _ _ _ _ _ c.lo.ensures.value c.hi.ensures.value
    c.end_back_in_leaf-from.ensures.ends c.end_in_leaf-to.ensures.ends c.loop-at.invariant.copied c.loop-at-test.false
