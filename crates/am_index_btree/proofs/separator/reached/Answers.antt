use Rattle.std.proofs.Common.{◌+◌, ◌-◌, length, refl, sym, ◌∙◌, arith}
use Rattle.am_record.specs.EntryOrder.{Place}
use Rattle.am_index_btree.proofs.SeparatorReach.{reached_to, reached_no_further, reached_all}
use Rattle.am_index_btree.proofs.separator.reached.Goals as goal

pub returns-then-is_reached : goal.returns-then-is_reached
returns-then-is_reached c =
    let p : Place = (c.args.part, c.args.key) in let ls = c.args.separators.now in
    reached_all p ls (length ls) refl
    (reached_to p ls c.requires (length ls - 1) c.index-separators-len.result (omega (arith, c.if-len-gt0.true))
    c.index-separators-len.is (sym c.is_reached.ensures ∙ c.if-is_reached.true) (length ls) (omega arith))

pub loop-reach-init : goal.loop-reach-init
loop-reach-init c = record { in_range = omega arith; passed = λ k d lt. absurd (omega (arith, lt)) }

pub loop-reach-preserved : goal.loop-reach-preserved
loop-reach-preserved c =
    let p : Place = (c.args.part, c.args.key) in let ls = c.args.separators.now in let n = c.loop-reach.reach in
    let le = c.loop-reach.invariant.in_range in
    record {
      in_range = omega (arith, c.loop-reach-test.true, le);
      passed = reached_to p ls c.requires (n + 8 - 1) c.index-separators-reach.result
          (omega (arith, c.loop-reach-test.true, le)) c.index-separators-reach.is
          (sym c.is_reached-in-loop-reach.ensures ∙ c.if-is_reached-2.true) (n + 8) (omega arith);
    }

pub loop-reach-2-init : goal.loop-reach-2-init
loop-reach-2-init c = record { in_range = c.loop-reach.invariant.in_range; passed = c.loop-reach.invariant.passed }

pub loop-reach-2-preserved : goal.loop-reach-2-preserved
loop-reach-2-preserved c =
    let p : Place = (c.args.part, c.args.key) in let ls = c.args.separators.now in let n = c.loop-reach-2.reach in
    record {
      in_range = omega (arith, c.loop-reach-2-test.true);
      passed = reached_to p ls c.requires n c.index-separators-reach-in-loop-reach-2.result c.loop-reach-2-test.true
          c.index-separators-reach-in-loop-reach-2.is (sym c.is_reached-in-loop-reach-2.ensures ∙
          c.if-is_reached-3.true)
          (n + 1) (omega arith);
    }

pub returns-else-is_reached-3 : goal.returns-else-is_reached-3
returns-else-is_reached-3 c =
    reached_no_further (c.args.part, c.args.key) c.args.separators.now c.requires c.loop-reach-2.reach
    c.index-separators-reach-in-loop-reach-2.result c.loop-reach-2-test.true
    c.index-separators-reach-in-loop-reach-2.is
    (sym c.is_reached-in-loop-reach-2.ensures ∙ c.if-is_reached-3.false) c.loop-reach-2.invariant.passed

pub returns-after-loop-reach-2 : goal.returns-after-loop-reach-2
returns-after-loop-reach-2 c = reached_all (c.args.part, c.args.key) c.args.separators.now c.loop-reach-2.reach
    (omega (arith, c.loop-reach-2-test.false, c.loop-reach-2.invariant.in_range)) c.loop-reach-2.invariant.passed
