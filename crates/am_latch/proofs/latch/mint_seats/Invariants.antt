use Rattle.std.proofs.Common.{◌≡◌, ◌≤◌, [], vec_len, vec_capacity}
use Rattle.am_latch.specs.Receipts.{numbered}
use Rattle.am_latch_ties.specs.declared.views.View.TheVariants.{Minting}
use Rattle.am_latch.proofs.latch.mint_seats.Given as goal

abbrev pub invariant-loop-number : goal.invariant-loop-number
invariant-loop-number g l = record {
  minted : l.seats.items ≡ numbered l.number;
  long : vec_len l.seats ≡ l.number;
  room : l.initial.count ≤ vec_capacity l.seats;
  trace_token : l.trace_token.me ≡ (Minting l.number, []);
  same : l.trace_token.table_id ≡ l.initial.trace_token.table_id;
}
