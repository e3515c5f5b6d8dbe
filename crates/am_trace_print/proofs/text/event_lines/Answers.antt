use Rattle.am_trace_text.specs.declared.version.Version.TheVariants.{Three}
use Rattle.am_trace_text.specs.Lines.{event_lines}
use Rattle.std.proofs.Common.{rules, arith}
use Rattle.am_trace_text.proofs.WrittenLines.{written_line}
use Rattle.am_trace_print.proofs.text.event_lines.Goals as goal

pub loop-event-preserved : goal.loop-event-preserved
loop-event-preserved c =
    written_line Three c.loop-event.page c.put_event.new.self (event_lines Three c.args.events.now) c.args.events.now
    c.loop-event.event-index _ c.event-item.result (omega arith) (search rules) c.event-item.is
    c.loop-event.invariant c.in_ok-put_event.ensures.text
