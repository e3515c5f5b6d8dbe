use Rattle.std.proofs.Common.{◌≡◌, ◌-◌, map, take, drop, length}
use Rattle.am_record.specs.KeyNumber.{key_number}
use Rattle.am_record.specs.OrderedKey.{key_least}
use Rattle.am_record.specs.declared.entry.Entry.{Entry}
use Rattle.am_index.specs.Entries.{all_from}
use Rattle.am_index_parts.proofs.run_numbers.run_numbers.Given as goal

-- the first entries of the run have their numbers, and the next ones stand in the batch
abbrev pub invariant-read : goal.invariant-read
invariant-read g l = record {
  numbers : l.numbers.items ≡ map (λ (e : Entry). key_number l.hash e.key)
      (take (length l.numbers.items) (all_from (g.I.PartIndex.entries l.index) l.part key_least));
  batch : l.batch ≡ take 16
      (drop (length l.numbers.items) (all_from (g.I.PartIndex.entries l.index) l.part key_least));
}

abbrev pub decreases-read : goal.decreases-read
decreases-read g l = length (all_from (g.I.PartIndex.entries l.index) l.part key_least) - length l.numbers.items
