use Rattle.std.proofs.Common.{◌≡◌, ◌+◌, ◌-◌, ◌/◌, ◌<◌, true, [], length, get_or, sym, ap, ◌∙◌, arith}
use Rattle.std.specs.Ordering.{is_lt}
use Rattle.am_record.specs.OrderedKey.{key_cmp, key_least}
use Rattle.am_record.proofs.FirstRows.{Record}
use Rattle.am_store_loads.proofs.PartedRecords.{all_below_to, none_below_from, not_less, parted_from}
use Rattle.am_store_loads.proofs.look.place_of.Goals as goal

pub loop-low-preserved-then-lt : goal.loop-low-preserved-then-lt
loop-low-preserved-then-lt g c =
    let rs = g.S.RecordSource.records c.args.records.now in
    let middle = c.loop-low.low + (c.loop-low.high - c.loop-low.low) / 2 in
    let less : is_lt (key_cmp (get_or rs middle (key_least, [])).0 c.args.key) ≡ true =
    ap (λ k. is_lt (key_cmp k c.args.key)) (sym c.key.ensures) ∙ sym c.lt.ensures ∙ c.if-lt.true in
    let inside : middle < length rs = omega (arith, c.loop-low.invariant.within, c.loop-low-test.true) in
    record {
      from = omega (arith, c.loop-low.invariant.from);
      order = omega (arith, c.loop-low-test.true);
      within = c.loop-low.invariant.within;
      below = λ k d low below. all_below_to c.args.key rs c.requires.sorted middle (key_least, []) inside less k d
          (omega (arith, below));
      others = c.loop-low.invariant.others;
    }

pub loop-low-preserved : goal.loop-low-preserved
loop-low-preserved g c =
    let rs = g.S.RecordSource.records c.args.records.now in
    let middle = c.loop-low.low + (c.loop-low.high - c.loop-low.low) / 2 in
    let reached = not_less (get_or rs middle (key_least, [])).0 c.args.key
    (ap (λ k. is_lt (key_cmp k c.args.key)) (sym c.key.ensures) ∙ sym c.lt.ensures ∙ c.if-lt.false) in
    let inside : middle < length rs = omega (arith, c.loop-low.invariant.within, c.loop-low-test.true) in
    record {
      from = c.loop-low.invariant.from;
      order = omega arith;
      within = omega (arith, inside);
      below = c.loop-low.invariant.below;
      others = λ k d low below. none_below_from c.args.key rs c.requires.sorted middle (key_least, []) inside reached k
          d
          low below;
    }

pub returns-clause-below : goal.returns-clause-below
returns-clause-below g c =
    let rs = g.S.RecordSource.records c.args.records.now in
    let done : c.loop-low.low ≡ c.loop-low.high = omega (arith, c.loop-low.invariant.order, c.loop-low-test.false) in
    (parted_from (λ (r : Record). is_lt (key_cmp r.0 c.args.key)) rs c.args.from c.loop-low.low
    c.loop-low.invariant.from (omega (arith, done, c.loop-low.invariant.within)) c.loop-low.invariant.below
    (λ k d low below. c.loop-low.invariant.others k d (omega (arith, done, low)) below)).0

pub returns-clause-others : goal.returns-clause-others
returns-clause-others g c =
    let rs = g.S.RecordSource.records c.args.records.now in
    let done : c.loop-low.low ≡ c.loop-low.high = omega (arith, c.loop-low.invariant.order, c.loop-low-test.false) in
    (parted_from (λ (r : Record). is_lt (key_cmp r.0 c.args.key)) rs c.args.from c.loop-low.low
    c.loop-low.invariant.from (omega (arith, done, c.loop-low.invariant.within)) c.loop-low.invariant.below
    (λ k d low below. c.loop-low.invariant.others k d (omega (arith, done, low)) below)).1
