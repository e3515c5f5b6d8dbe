use Rattle.am_line_sink.proofs.Writes.{wrote_flushed}
use Rattle.am_line_session.proofs.parting_sink.AnyPartingSink.say_bye.Goals as goal

pub returns-clause-wrote : goal.returns-clause-wrote
returns-clause-wrote g c = wrote_flushed c.flush.result c.in_ok-give_all.ensures.wrote c.flush.ensures.kept
    c.flush.ensures.ok c.flush.ensures.failed
