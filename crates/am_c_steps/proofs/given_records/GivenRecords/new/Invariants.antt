use Rattle.std.proofs.Common.{◌≡◌, take, Ok}
use Rattle.am_record.specs.Plain.{Records}
use Rattle.am_c_steps.specs.AskedSteps.{pairs_given}
use Rattle.am_c_steps.proofs.given_records.GivenRecords.new.Given as goal

abbrev pub invariant-loop-record : goal.invariant-loop-record
invariant-loop-record l = (done : Records) × (pairs_given (take l.record-index l.records) ≡ Ok done)
