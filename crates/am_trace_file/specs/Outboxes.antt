-- What is known of the way of a trace to its file.
use Rattle.std.specs.Prelude.{ℕ, Bool}
use Rattle.am_trace_file.specs.declared.outbox.Sending.{Sending}

abbrev pub sending_failures : {R : Type 0} → Sending R → ℕ
sending_failures s = s.failures

abbrev pub is_unwritten : {R : Type 0} → Sending R → Bool
is_unwritten s = s.is_pending
