use Rattle.std.proofs.Common.{◌≡◌, ℕ, ◌≤◌, List, ◌++◌, length, drop, take, append-nil, sym, ap, ◌∙◌, subst, rules}
use Rattle.std.proofs.Common.{arith}
use Rattle.std.proofs.Math.ListN.{drop_of_length-le}
use Rattle.std.proofs.lemmas.List.{take_all}
use Rattle.am_record.specs.Events.{Event}
use Rattle.am_trace_text.specs.Lines.{header_line, event_lines, trace_text, AreEvents, CanBeStored, IsTextOf}
use Rattle.am_trace_text.specs.Versions.{version_needed}
use Rattle.am_trace_text.specs.declared.version.Version.TheVariants.{Three}
use Rattle.am_trace_text.specs.declared.header.Header.TheVariants.{Profile}
use Rattle.am_trace_text.proofs.AlikeLines.{lines_needed, is_text}
use Rattle.am_trace_text.proofs.WrittenLines.{written_line, stored_more}
use Rattle.am_trace_print.proofs.text.trace_text.Goals as goal

-- all lines are written
all_written : (trace : List Event) (page : List ℕ) (i : ℕ) → length trace ≤ i →
    page ++ event_lines Three (drop i trace) ≡ header_line (Profile (version_needed trace)) ++ event_lines Three trace →
    page ≡ trace_text (Profile (version_needed trace)) trace
all_written trace page i past h =
    sym (append-nil page)
    ∙ ap (λ (rest : List Event). page ++ event_lines Three rest) (sym (drop_of_length-le trace past))
    ∙ h
    ∙ ap (λ (lines : List ℕ). header_line (Profile (version_needed trace)) ++ lines) (sym (lines_needed trace))

-- and the events have them
all_stored : (trace : List Event) (i : ℕ) → length trace ≤ i → (CanBeStored (take i trace) → AreEvents Three
    (take i trace)) → CanBeStored trace → AreEvents Three trace
all_stored trace i past h = subst (λ (all : List Event). CanBeStored all → AreEvents Three all) (take_all i trace past)
    h

pub loop-event-preserved : goal.loop-event-preserved
loop-event-preserved c = record {
  written = written_line Three c.loop-event.page c.put_event.new.self _ c.args.trace.now c.loop-event.event-index _
      c.event-item.result (omega arith) (search rules) c.event-item.is c.loop-event.invariant.written
      c.in_ok-put_event.ensures.text;
  events = stored_more Three c.args.trace.now c.loop-event.event-index _ c.event-item.result (omega arith)
      (search rules)
      c.event-item.is c.loop-event.invariant.events c.in_ok-put_event.ensures.event;
}

pub returns-clause-text : goal.returns-clause-text
returns-clause-text c = c.into_bytes.ensures ∙ all_written c.args.trace.now c.loop-event.page c.loop-event.event-index
    (omega arith) c.loop-event.invariant.written

pub returns-clause-whole : goal.returns-clause-whole
returns-clause-whole c = λ can.
    let written : c.into_bytes.result.items ≡ trace_text (Profile (version_needed c.args.trace.now)) c.args.trace.now =
    c.into_bytes.ensures ∙ all_written c.args.trace.now c.loop-event.page c.loop-event.event-index (omega arith)
    c.loop-event.invariant.written in
    subst (λ (text : List ℕ). IsTextOf text c.args.trace.now) (sym written) (is_text c.args.trace.now
    (all_stored c.args.trace.now c.loop-event.event-index (omega arith) c.loop-event.invariant.events can))
