use Rattle.std.proofs.Common.{◌≡◌, ◌*◌, length, take}
use Rattle.am_store_runs.specs.RecordPlaces.{records_at}
use Rattle.am_c_steps.specs.Structs.{records_given, structs_given}
use Rattle.am_c_steps.proofs.Wholes.{records_of}
use Rattle.am_c_steps.proofs.structs_copy.copied.Given as goal

-- the structs that were copied are those of the spots so far
abbrev pub invariant-loop-spot : goal.invariant-loop-spot
invariant-loop-spot l = record {
  long : length l.copied.items ≡ l.spot-index * l.layout.size;
  are : records_of l.layout l.copied.items l.spot-index ≡
      records_at (records_given (structs_given l.layout l.structs l.count)) (take l.spot-index l.spots);
}
