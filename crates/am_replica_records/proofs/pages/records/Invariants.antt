use Rattle.std.proofs.Common.{◌≡◌, ◌++◌, ℕ, ◌+◌, length, Option, Some, None}
use Rattle.am_record.specs.OrderedKey.{OrderedKey}
use Rattle.am_record.specs.Plain.{PlainMap}
use Rattle.am_replica_records.specs.Records.{all_rows, rows_from, left_from}
use Rattle.am_replica_records.proofs.pages.records.Given as goal

-- the records so far and those that are left are all
abbrev pub invariant-loop-next : goal.invariant-loop-next
invariant-loop-next g l =
    let m = g.M.Machine.map l.fn.machine in
    record {
      idle : g.M.Machine.idle l.machine;
      same : g.M.Machine.map l.machine ≡ m;
      so_far : l.all.items ++ left_from l.next m ≡ all_rows m;
    }

abbrev left_len : Option OrderedKey → PlainMap → ℕ
left_len None m = 0
left_len (Some key) m = length (rows_from key m) + 1

abbrev pub decreases-loop-next : goal.decreases-loop-next
decreases-loop-next g l = left_len l.next (g.M.Machine.map l.machine)
