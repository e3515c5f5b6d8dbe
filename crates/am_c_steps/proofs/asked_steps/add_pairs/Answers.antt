use Rattle.std.proofs.Common.{arith, sym, ap, ◌∙◌, Ok, refl, inl}
use Rattle.am_c_steps.proofs.PairsGiven.{one_more, one_wrong, pushed}
use Rattle.am_c_steps.proofs.asked_steps.add_pairs.Goals as goal

pub loop-record-preserved : goal.loop-record-preserved
loop-record-preserved c = record {
  done = one_more c.args.records.now c.loop-record.record-index _ c.loop-record.pairs.items
      (omega (arith, c.loop-record-test.true)) c.loop-record.invariant.done c.in-Ok.pair
      (sym c.pair.ensures ∙ c.in-Ok.is)
      ∙ ap Ok (sym (pushed c.push.result c.is_err.result _ _ _ c.is_err.ensures.value c.if-is_err.false
      c.push.ensures.items));
  same = refl;
}

pub returns-in-Err : goal.returns-in-Err
returns-in-Err c = inl (one_wrong c.args.records.now c.loop-record.record-index _ c.loop-record.pairs.items
    (omega (arith, c.loop-record-test.true)) c.loop-record.invariant.done c.in-Err.why
    (sym c.pair.ensures ∙ c.in-Err.is))
