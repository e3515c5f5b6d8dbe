use Rattle.std.proofs.Common.{◌≡◌, ◌++◌, drop}
use Rattle.am_index.specs.Content.{content}
use Rattle.am_law_effect.specs.Operations.{new_records, updates}
use Rattle.am_store_operations.proofs.puts.part_records.Given as goal

abbrev pub invariant-loop-at : goal.invariant-loop-at
invariant-loop-at g l =
    let es = l.fn.parts.entries in
    let left = drop l.at l.records in
    record {
      updates : l.parted.updates.items ++ updates left es ≡ updates l.records es;
      fresh : l.parted.fresh.items ++ new_records left (content es) ≡ new_records l.records (content es);
    }
