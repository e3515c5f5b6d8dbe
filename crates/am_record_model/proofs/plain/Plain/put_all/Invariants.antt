use Rattle.std.proofs.Common.{◌≡◌, drop}
use Rattle.am_record.specs.Plain.{insert_all}
use Rattle.am_record_model.proofs.plain.Plain.put_all.Given as goal

abbrev pub invariant-loop-pair : goal.invariant-loop-pair
invariant-loop-pair l = record {
  put_so_far : insert_all (drop l.pair-index l.pairs) l.self.map ≡ insert_all l.pairs l.fn.self.map;
  saved : l.self.saved ≡ l.fn.self.saved;
}
