use Rattle.std.proofs.Common.{◌≡◌, ◌<◌, ◌-◌, List, length, get_or, subst, arith}
use Rattle.am_record.specs.declared.entry.Entry.{Entry}
use Rattle.am_index.proofs.Rows.{are_enough_back, none_copied_back, all_copied_back, ghost_passed_back, row_copied_back}
use Rattle.am_index_list.proofs.list_index.ListIndexPartIndex.copy_rows_back.Goals as goal

pub loop-at-init : goal.loop-at-init
loop-at-init c = record {
  room = omega arith;
  copied = none_copied_back c.args.self.now c.args.part c.args.range c.args.max c.args.rows.now.items
      c.lo.ensures.value c.hi.ensures.value c.lower_bound-from.ensures.bound c.upper_bound-to.ensures.bound c.requires;
}

pub loop-at-preserved-in-Continue-1 : goal.loop-at-preserved-in-Continue-1
loop-at-preserved-in-Continue-1 c =
    let es = c.args.self.now in let at = c.loop-at.at in let e = c.index-entry.result.now in
    let inside : at - 1 < length es =
    omega (arith, c.loop-at-test.true, c.loop-at.auto.at, c.upper_bound-to.ensures.bound.in_range) in
    let here = subst (λ (l : List Entry). e ≡ get_or l (at - 1) e) c.self.view_is c.index-entry.ensures in
    let room : length c.loop-at.rows.items < c.args.max =
    omega (arith, c.if-len-max.false, c.len.ensures, c.loop-at.rows.ok.0) in
    record {
      room = omega (arith, c.loop-at.invariant.room, c.in_ok-push.ensures.capacity);
      copied = row_copied_back es c.args.part c.args.range c.args.max c.args.rows.now.items c.lo.ensures.value
          c.hi.ensures.value c.lower_bound-from.ensures.bound c.upper_bound-to.ensures.bound c.loop-at.invariant.copied
          e (at - 1) (omega (arith, c.loop-at-test.true)) (omega (arith, c.loop-at-test.true))
          (omega (arith, c.loop-at-test.true, c.loop-at.auto.at)) inside here c.if-not-entry.true
          c.in_ok-push.ensures.items room;
    }

pub loop-at-preserved : goal.loop-at-preserved
loop-at-preserved c =
    let es = c.args.self.now in let at = c.loop-at.at in let e = c.index-entry.result.now in
    let inside : at - 1 < length es =
    omega (arith, c.loop-at-test.true, c.loop-at.auto.at, c.upper_bound-to.ensures.bound.in_range) in
    let here = subst (λ (l : List Entry). e ≡ get_or l (at - 1) e) c.self.view_is c.index-entry.ensures in
    record {
      room = c.loop-at.invariant.room;
      copied = ghost_passed_back es c.args.part c.args.range c.args.max c.args.rows.now.items c.lo.ensures.value
          c.hi.ensures.value c.lower_bound-from.ensures.bound c.upper_bound-to.ensures.bound c.loop-at.invariant.copied
          e (at - 1) (omega (arith, c.loop-at-test.true)) (omega (arith, c.loop-at-test.true))
          (omega (arith, c.loop-at-test.true, c.loop-at.auto.at)) inside here c.if-not-entry.false;
    }

pub returns-clause-copied : goal.returns-clause-copied
returns-clause-copied c =
    all_copied_back c.args.self.now c.args.part c.args.range c.args.max c.args.rows.now.items c.lo.ensures.value
    c.hi.ensures.value c.lower_bound-from.ensures.bound c.upper_bound-to.ensures.bound c.loop-at.invariant.copied
    c.loop-at-test.false

pub returns-then-len-max-clause-copied : goal.returns-then-len-max-clause-copied
returns-then-len-max-clause-copied c =
    are_enough_back c.args.self.now c.args.part c.args.range c.args.max c.args.rows.now.items
    c.loop-at.invariant.copied
    (omega (arith, c.if-len-max.true, c.len.ensures, c.loop-at.rows.ok.0))
