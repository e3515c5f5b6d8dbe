use Rattle.std.proofs.Common.{◌≡◌, ◌++◌, ◌∷◌, [], List, refl, sym, ap, ◌∙◌, subst, append_assoc, rules}
use Rattle.am_record.specs.Events.{Event}
use Rattle.am_trace_text.specs.Headers.{line_version}
use Rattle.am_trace_text.specs.Lines.{IsEvent, AreEvents, event_words, with_lf, trace_text}
use Rattle.am_trace_text.specs.declared.version.Version.{Version}
use Rattle.am_trace_text.proofs.WrittenLines.{all_behind, read_line}
use Rattle.am_trace_read.proofs.text.read_trace.Goals as goal

pub lines-preserved : goal.lines-preserved
lines-preserved c =
    let header = c.in_ok-header.header in
    let words = event_words (line_version header) c.in-Ok.event in
    let event = subst (λ (v : Version). IsEvent v c.in-Ok.event × (c.lines.rest.now ≡
    with_lf (event_words v c.in-Ok.event) ++ c.in-Ok.further.now)) c.version.ensures c.in-Ok.ensures.event in
    let items : c.push.new.self.items ≡ c.lines.trace.items ++ c.in-Ok.event ∷ [] = search rules in
    record {
      fits = c.lines.invariant.fits;
      events = subst (AreEvents (line_version header)) (sym items) (all_behind (IsEvent (line_version header))
          c.lines.trace.items c.in-Ok.event c.lines.invariant.events event.0);
      spelled = read_line header c.args.text.now c.lines.rest.now words c.in-Ok.further.now c.lines.trace.items
          c.in-Ok.event c.lines.invariant.spelled (event.1 ∙ append_assoc words (10 ∷ []) c.in-Ok.further.now) refl
          ∙ ap (λ (trace : List Event). trace_text header trace ++ c.in-Ok.further.now) (sym items);
    }
