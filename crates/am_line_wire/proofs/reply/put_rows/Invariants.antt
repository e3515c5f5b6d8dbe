use Rattle.std.proofs.Common.{Ok, take}
use Rattle.am_line_sink.specs.SinkWrites.{Wrote}
use Rattle.am_line_wire.specs.Replies.{rows_words}
use Rattle.am_line_wire.proofs.reply.put_rows.Given as goal

abbrev pub invariant-loop-row : goal.invariant-loop-row
invariant-loop-row g l =
    Wrote {A = Unit {0}} g.K.Sink.holds g.K.Sink.failures l.fn.sink (rows_words (take l.row-index l.rows)) (Ok tt)
    l.sink
