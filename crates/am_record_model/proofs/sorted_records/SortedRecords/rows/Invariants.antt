use Rattle.std.proofs.Common.{◌≡◌, ◌++◌, ◌≤◌, length}
use Rattle.am_record_model.specs.Slots.{records_of_cells}
use Rattle.am_record_model.proofs.sorted_records.SortedRecords.rows.Given as goal

abbrev pub invariant-loop-key : goal.invariant-loop-key
invariant-loop-key l = record {
  listed : l.rows.items ++ records_of_cells l.key-iterator ≡ records_of_cells l.initial.key-iterator;
  few : length l.rows.items ≤ l.max;
}
