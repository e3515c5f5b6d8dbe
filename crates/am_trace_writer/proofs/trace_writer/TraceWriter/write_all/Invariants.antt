use Rattle.std.proofs.Common.{◌≡◌, ◌++◌, length}
use Rattle.am_law_serial.specs.Trace.{Trace}
use Rattle.am_trace_writer.specs.Writers.{TookLines}
use Rattle.am_trace_writer.proofs.trace_writer.TraceWriter.write_all.Given as goal

abbrev pub invariant-chunks : goal.invariant-chunks
invariant-chunks g l = (events : Trace) × (l.events ≡ events ++ l.rest) ×
    TookLines g.K.Sink.holds l.fn.self.sink l.fn.self.is_cut events l.self.sink l.self.is_cut × (l.self.needs_three ≡
    l.fn.self.needs_three)

abbrev pub decreases-chunks : goal.decreases-chunks
decreases-chunks g l = length l.rest
