use Rattle.std.proofs.Common.{◌≡◌}
use Rattle.am_latch.specs.Receipts.{HaveReceiptsIn}
use Rattle.am_latch_ties.specs.Views.{log_in}
use Rattle.am_latch.proofs.latch_end.audit_all.Given as goal

abbrev pub invariant-loop-i : goal.invariant-loop-i
invariant-loop-i g l = record {
  same : l.seats ≡ l.initial.seats;
  known : HaveReceiptsIn (log_in l.initial.trace_token.me.0) l.seats l.i;
  table : l.trace_token.table_id ≡ l.initial.trace_token.table_id;
  trace_token : l.trace_token.me ≡ l.initial.trace_token.me;
}
