use Rattle.std.proofs.Common.{◌≡◌, ◌++◌, ◌∙◌, ap, sym, rules, subst, append_assoc, true}
use Rattle.std.proofs.lemmas.List.{take-append-drop}
use Rattle.am_law_serial.specs.Trace.{Trace}
use Rattle.am_trace_writer.specs.Writers.{TookLines}
use Rattle.am_trace_writer.specs.WriterLaws.{took_lines_of_both, still_cut}
use Rattle.am_trace_writer.proofs.trace_writer.TraceWriter.write_all.Goals as goal

pub chunks-preserved : goal.chunks-preserved
chunks-preserved g c =
    let held = c.chunks.invariant in
    let front = c.split_at.result.0.now in
    let back = c.split_at.result.1.now in
    let cut : front ++ back ≡ c.chunks.rest.now = search (rules, take-append-drop) in (
      held.0 ++ front,
      held.1 ∙ ap (λ (l : Trace). held.0 ++ l) (sym cut) ∙ sym (append_assoc held.0 front back),
      took_lines_of_both g.K.Sink.holds c.args.self.now.sink c.chunks.self.sink c.write.new.self.sink
          c.args.self.now.is_cut c.chunks.self.is_cut c.write.new.self.is_cut held.0 front held.2 c.write.ensures.took,
      c.write.ensures.needs ∙ held.3,
    )

pub returns-else-not-self-clause-took : goal.returns-else-not-self-clause-took
returns-else-not-self-clause-took g c =
    let held = c.chunks.invariant in
    let is_cut : c.chunks.self.is_cut ≡ true = search rules in
    subst (λ (l : Trace). TookLines g.K.Sink.holds c.args.self.now.sink c.args.self.now.is_cut l c.chunks.self.sink
    c.chunks.self.is_cut) (sym held.1)
    (still_cut g.K.Sink.holds c.args.self.now.sink c.chunks.self.sink c.args.self.now.is_cut c.chunks.self.is_cut held.0
    c.chunks.rest.now is_cut held.2)
