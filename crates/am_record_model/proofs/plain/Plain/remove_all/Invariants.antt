use Rattle.std.proofs.Common.{◌≡◌, drop}
use Rattle.am_record.specs.Plain.{remove_all}
use Rattle.am_record_model.proofs.plain.Plain.remove_all.Given as goal

abbrev pub invariant-loop-row : goal.invariant-loop-row
invariant-loop-row l = record {
  removed_so_far : remove_all (drop l.row-index l.rows) l.self.map ≡ remove_all l.rows l.fn.self.map;
  saved : l.self.saved ≡ l.fn.self.saved;
}
