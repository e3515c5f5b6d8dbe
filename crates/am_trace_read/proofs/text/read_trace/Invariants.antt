use Rattle.std.proofs.Common.{◌≡◌, ◌++◌, length}
use Rattle.am_trace_text.specs.Headers.{IsHeader, line_version}
use Rattle.am_trace_text.specs.Lines.{AreEvents, trace_text}
use Rattle.am_trace_read.proofs.text.read_trace.Given as goal

abbrev pub invariant-lines : goal.invariant-lines
invariant-lines l = record {
  fits : IsHeader l.header;
  events : AreEvents (line_version l.header) l.trace.items;
  spelled : l.text ≡ trace_text l.header l.trace.items ++ l.rest;
}

abbrev pub decreases-lines : goal.decreases-lines
decreases-lines l = length l.rest
