use Rattle.std.proofs.Common.{take}
use Rattle.am_record_model.specs.Slots.{live}
use Rattle.am_record_model.proofs.Leasts.{IsLeast}
use Rattle.am_record_model.proofs.sorted_records.SortedRecords.least_taken.Given as goal

abbrev pub invariant-loop-pair : goal.invariant-loop-pair
invariant-loop-pair l = IsLeast (live l.self) (take l.pair-index l.pairs) l.least
