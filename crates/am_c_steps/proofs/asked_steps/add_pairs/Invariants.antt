use Rattle.std.proofs.Common.{◌≡◌, take, Ok}
use Rattle.am_c_steps.specs.AskedSteps.{pairs_given}
use Rattle.am_c_steps.proofs.asked_steps.add_pairs.Given as goal

abbrev pub invariant-loop-record : goal.invariant-loop-record
invariant-loop-record l = record {
  done : pairs_given (take l.record-index l.fn.records) ≡ Ok l.pairs.items;
  same : l.records ≡ l.fn.records;
}
