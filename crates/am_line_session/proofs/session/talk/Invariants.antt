use Rattle.std.proofs.Common.{◌≡◌, false}
use Rattle.am_line_source.specs.Lines.{has_lf}
use Rattle.am_line_session.proofs.SessionProgress.{Talks}
use Rattle.am_line_session.proofs.session.talk.Given as goal

abbrev pub invariant-lines : goal.invariant-lines
invariant-lines g l = record {
  talks : Talks g.S.AnsweredSource.comes g.K.Sink.holds g.B.Backend.means l.fn.auto l.fn.source l.fn.sink
      (l.fn.backend, l.fn.session.staged) l.input l.source l.sink (l.backend, l.session.staged);
  known : g.B.Backend.means.active l.backend ≡ l.session.active;
  sent : has_lf l.input ≡ false → g.K.Sink.pending l.sink ≡ false;
  source_ok : g.S.AnsweredSource.failures l.source ≡ g.S.AnsweredSource.failures l.fn.source;
  sink_ok : g.K.Sink.failures l.sink ≡ g.K.Sink.failures l.fn.sink;
}
