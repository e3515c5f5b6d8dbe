use Rattle.std.proofs.Common.{Ok, take}
use Rattle.am_line_sink.specs.SinkWrites.{Wrote}
use Rattle.am_resp_text.specs.Answers.{parts_text}
use Rattle.am_resp_text.proofs.put.put_parts.Given as goal

abbrev pub invariant-loop-part : goal.invariant-loop-part
invariant-loop-part g l =
    Wrote {A = Unit {0}} g.K.Sink.holds g.K.Sink.failures l.fn.sink (parts_text (take l.part-index l.parts)) (Ok tt)
    l.sink
