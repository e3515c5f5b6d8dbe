use Rattle.std.proofs.Common.{◌≡◌, ◌+◌, ◌*◌, ◌++◌, drop, length}
use Rattle.am_trace_text.specs.Words.{hex_digits, hex}
use Rattle.am_trace_print.proofs.field.Field.then_hex.Given as goal

abbrev pub invariant-loop-byte : goal.invariant-loop-byte
invariant-loop-byte l = record {
  written : l.field ++ hex_digits (drop l.byte-index l.bytes) ≡ l.fn.self ++ hex l.bytes;
  length : length l.field + 2 * length (drop l.byte-index l.bytes) ≡ length l.fn.self + (2 * length l.bytes + 1);
}
