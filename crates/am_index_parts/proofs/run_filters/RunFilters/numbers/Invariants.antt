use Rattle.std.proofs.Common.{◌≡◌, take}
use Rattle.am_record.specs.KeyNumber.{numbers_of}
use Rattle.am_index_parts.proofs.run_filters.RunFilters.numbers.Given as goal

abbrev pub invariant-loop-at : goal.invariant-loop-at
invariant-loop-at g l = l.numbers.items ≡ numbers_of l.self.hash (take l.at (g.S.RecordSource.records l.records))
