use Rattle.std.proofs.Common.{◌≡◌, ◌≤◌, ◌-◌, true, false, length}
use Rattle.std.specs.List.{AllWithin}
use Rattle.std.specs.Ordering.{is_lt}
use Rattle.am_record.specs.OrderedKey.{key_cmp}
use Rattle.am_record.proofs.FirstRows.{Record}
use Rattle.am_store_loads.proofs.look.place_of.Given as goal

abbrev pub invariant-loop-low : goal.invariant-loop-low
invariant-loop-low g l =
    let rs = g.S.RecordSource.records l.records in
    record {
      from : l.from ≤ l.low;
      order : l.low ≤ l.high;
      within : l.high ≤ length rs;
      below : AllWithin (λ (r : Record). is_lt (key_cmp r.0 l.key) ≡ true) rs l.from l.low;
      others : AllWithin (λ (r : Record). is_lt (key_cmp r.0 l.key) ≡ false) rs l.high (length rs);
    }

abbrev pub decreases-loop-low : goal.decreases-loop-low
decreases-loop-low g l = l.high - l.low
