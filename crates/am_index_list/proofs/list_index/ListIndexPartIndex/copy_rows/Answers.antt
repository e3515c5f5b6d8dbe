use Rattle.std.proofs.Common.{◌≡◌, ◌<◌, List, length, get_or, subst, arith}
use Rattle.am_record.specs.declared.entry.Entry.{Entry}
use Rattle.am_index.proofs.Rows.{are_enough, none_copied, all_copied, ghost_passed, row_copied}
use Rattle.am_index_list.proofs.list_index.ListIndexPartIndex.copy_rows.Goals as goal
use Rattle.am_index_list.proofs.list_index.ListIndexPartIndex.copy_rows.Goals.{then-not-entry+in_ok-push}
use Rattle.am_index_list.proofs.list_index.ListIndexPartIndex.copy_rows.Goals.{else-not-entry}

pub loop-at-init : goal.loop-at-init
loop-at-init c = record {
  room = omega arith;
  copied = none_copied c.args.self.now c.args.part c.args.range c.args.max c.args.rows.now.items
      c.lo.ensures.value c.hi.ensures.value c.lower_bound-from.ensures.bound c.upper_bound-to.ensures.bound c.requires;
}

pub loop-at-preserved : goal.loop-at-preserved
loop-at-preserved c =
    let es = c.args.self.now in let at = c.loop-at.at in let e = c.index-entry.result.now in
    let inside : at < length es = omega (arith, c.loop-at-test.true, c.upper_bound-to.ensures.bound.in_range) in
    let here = subst (λ (l : List Entry). e ≡ get_or l at e) c.self.view_is c.index-entry.ensures in
    elim c.if-not-entry.branch [
      | then-not-entry+in_ok-push w ↦
          let room : length c.loop-at.rows.items < c.args.max =
          omega (arith, c.if-len-max.false, c.len.ensures, c.loop-at.rows.ok.0) in
          rw w.rows-is (record {
            room = omega (arith, c.loop-at.invariant.room, w.in_ok-push.ensures.capacity);
            copied = row_copied es c.args.part c.args.range c.args.max c.args.rows.now.items c.lo.ensures.value
                c.hi.ensures.value c.lower_bound-from.ensures.bound c.upper_bound-to.ensures.bound
                c.loop-at.invariant.copied
                e
                c.loop-at.auto.at c.loop-at-test.true inside here w.if-not-entry.true w.in_ok-push.ensures.items room;
          })
      | else-not-entry w ↦
          rw w.rows-is (record {
            room = c.loop-at.invariant.room;
            copied = ghost_passed es c.args.part c.args.range c.args.max c.args.rows.now.items c.lo.ensures.value
                c.hi.ensures.value c.lower_bound-from.ensures.bound c.upper_bound-to.ensures.bound
                c.loop-at.invariant.copied
                e
                c.loop-at.auto.at c.loop-at-test.true inside here w.if-not-entry.false;
          })
    ]

pub returns-clause-copied : goal.returns-clause-copied
returns-clause-copied c =
    all_copied c.args.self.now c.args.part c.args.range c.args.max c.args.rows.now.items c.lo.ensures.value
    c.hi.ensures.value c.lower_bound-from.ensures.bound c.upper_bound-to.ensures.bound c.loop-at.invariant.copied
    c.loop-at-test.false

pub returns-then-len-max-clause-copied : goal.returns-then-len-max-clause-copied
returns-then-len-max-clause-copied c =
    are_enough c.args.self.now c.args.part c.args.range c.args.max c.args.rows.now.items c.loop-at.invariant.copied
    (omega (arith, c.if-len-max.true, c.len.ensures, c.loop-at.rows.ok.0))
