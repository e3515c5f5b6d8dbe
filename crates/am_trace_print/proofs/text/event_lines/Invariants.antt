use Rattle.std.proofs.Common.{◌≡◌, ◌++◌, drop}
use Rattle.am_trace_text.specs.Lines.{event_lines}
use Rattle.am_trace_text.specs.declared.version.Version.TheVariants.{Three}
use Rattle.am_trace_print.proofs.text.event_lines.Given as goal

abbrev pub invariant-loop-event : goal.invariant-loop-event
invariant-loop-event l = l.page ++ event_lines Three (drop l.event-index l.events) ≡ event_lines Three l.events
