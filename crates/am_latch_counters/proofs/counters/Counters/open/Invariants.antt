use Rattle.std.proofs.Common.{◌≡◌, ◌+◌, [], All, vec_len}
use Rattle.am_latch_counters.specs.Counters.{new_history}
use Rattle.am_latch_counters.proofs.counters.Counters.open.Given as goal

abbrev pub invariant-loop : goal.invariant-loop
invariant-loop l = record {
  same : l.rest.table_id ≡ l.table.shared.table_id;
  fresh : l.rest.me.0.drawn ≡ [];
  left : l.rest.me.0.seats + l.counter ≡ 1024;
  made : vec_len l.seats ≡ l.counter;
  each : All (λ s. s ≡ new_history l.table.shared.table_id) l.seats.items;
}
