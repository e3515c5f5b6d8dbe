use Rattle.std.proofs.Common.{◌≡◌, ◌++◌, ◌≤◌, length, reverse}
use Rattle.am_record_model.specs.Slots.{records_of_cells}
use Rattle.am_record_model.proofs.sorted_records.SortedRecords.rows_back.Given as goal

abbrev pub invariant-loop-key : goal.invariant-loop-key
invariant-loop-key l = record {
  listed : l.rows.items ++ reverse (records_of_cells l.key-iterator.iter) ≡ reverse
      (records_of_cells l.initial.key-iterator.iter);
  few : length l.rows.items ≤ l.max;
}
