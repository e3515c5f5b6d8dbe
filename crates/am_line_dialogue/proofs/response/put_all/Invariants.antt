use Rattle.std.proofs.Common.{Ok, take}
use Rattle.am_line_sink.specs.SinkWrites.{Wrote}
use Rattle.am_line_dialogue.specs.Responses.{sessions_words}
use Rattle.am_line_dialogue.proofs.response.put_all.Given as goal

abbrev pub invariant-loop-session : goal.invariant-loop-session
invariant-loop-session g l =
    Wrote {A = Unit {0}} g.K.Sink.holds g.K.Sink.failures l.fn.sink
    (sessions_words (take l.session-index l.sessions)) (Ok tt) l.sink
