use Rattle.std.proofs.Common.{arith, [], ◌∷◌, ◌++◌, sym, ◌∙◌}
use Rattle.am_c_steps.proofs.PairsGiven.{one_more, one_wrong}
use Rattle.am_c_steps.proofs.given_records.GivenRecords.new.Goals as goal

pub returns-in-Err : goal.returns-in-Err
returns-in-Err c = sym (one_wrong c.args.records.now c.loop-record.record-index _ c.loop-record.invariant.0
    (omega (arith, c.loop-record-test.true)) c.loop-record.invariant.1 c.in-Err.why
    (sym c.pair.ensures ∙ c.in-Err.is))

pub loop-record-preserved : goal.loop-record-preserved
loop-record-preserved c = (
  c.loop-record.invariant.0 ++ c.in_default.field-0 ∷ [],
  one_more c.args.records.now c.loop-record.record-index _ c.loop-record.invariant.0
      (omega (arith, c.loop-record-test.true)) c.loop-record.invariant.1 c.in_default.field-0
      (sym c.pair.ensures ∙ c.in_default.is),
)
