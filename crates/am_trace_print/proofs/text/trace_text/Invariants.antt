use Rattle.std.proofs.Common.{◌≡◌, ◌++◌, drop, take}
use Rattle.am_trace_text.specs.Lines.{header_line, event_lines, AreEvents, CanBeStored}
use Rattle.am_trace_text.specs.Versions.{version_needed}
use Rattle.am_trace_text.specs.declared.version.Version.TheVariants.{Three}
use Rattle.am_trace_text.specs.declared.header.Header.TheVariants.{Profile}
use Rattle.am_trace_print.proofs.text.trace_text.Given as goal

abbrev pub invariant-loop-event : goal.invariant-loop-event
invariant-loop-event l = record {
  written : l.page ++ event_lines Three (drop l.event-index l.trace) ≡ header_line (Profile (version_needed l.trace)) ++
      event_lines Three l.trace;
  events : CanBeStored (take l.event-index l.trace) → AreEvents Three (take l.event-index l.trace);
}
