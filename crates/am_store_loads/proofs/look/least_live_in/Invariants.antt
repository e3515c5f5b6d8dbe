use Rattle.std.proofs.Common.{◌≡◌, ◌≤◌, ◌-◌, true, length, drop}
use Rattle.am_record.specs.OrderedKey.{OrderedKey}
use Rattle.am_record.specs.Plain.{is_key_of}
use Rattle.am_store_loads.specs.Walk.{IsWalkFrom}
use Rattle.am_store_loads.proofs.PassedEntries.{IsLeft}
use Rattle.am_store_loads.proofs.look.least_live_in.Given as goal

abbrev pub invariant-loop-at : goal.invariant-loop-at
invariant-loop-at g l =
    let rs = g.S.RecordSource.records l.records in
    record {
      within : l.at ≤ length rs;
      left : IsLeft l.parts.entries l.fn.first.part rs (drop l.at rs);
      part : l.walk.part ≡ l.fn.first.part;
      walk : (q : OrderedKey) → is_key_of (drop l.at rs) q ≡ true → IsWalkFrom l.parts.entries q l.walk;
    }

abbrev pub decreases-loop-at : goal.decreases-loop-at
decreases-loop-at g l = length (g.S.RecordSource.records l.records) - l.at
