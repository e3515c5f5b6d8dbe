use Rattle.std.proofs.Common.{◌≡◌, ◌++◌, map, take}
use Rattle.am_record.specs.KeyNumber.{key_number}
use Rattle.am_record.specs.declared.entry.Entry.{Entry}
use Rattle.am_index_parts.proofs.run_numbers.push_numbers.Given as goal

abbrev pub invariant-loop-entry : goal.invariant-loop-entry
invariant-loop-entry l = l.numbers.items ≡
    l.fn.numbers.items ++ map (λ (e : Entry). key_number l.hash e.key) (take l.entry-index l.entries)
