use Rattle.am_serve.proofs.ServedSessions.{has_same_seat, has_published, was_served}
use Rattle.am_serve.proofs.sessions.serve_session.Goals as goal

pub returns-clause-seat : goal.returns-clause-seat
returns-clause-seat g c =
    has_same_seat g.L.LatchName.most_runs c.args.session_seat.now c.serve.new.backend
    (c.sessions_have_receipts.ensures g.L.LatchName.most_runs)
    (was_served g.L.LatchName.most_runs g.S.AnsweredSource.comes g.K.Sink.holds g.K.PartingSink.parts c.args.source.now
    c.args.sink.now
    c.args.session_seat.now c.serve.new.source c.serve.new.sink c.serve.new.backend c.serve.result
    c.serve.ensures.served)

pub returns-clause-published : goal.returns-clause-published
returns-clause-published g c =
    has_published g.L.LatchName.most_runs c.args.session_seat.now c.serve.new.backend
    (c.sessions_have_receipts.ensures g.L.LatchName.most_runs)
    (was_served g.L.LatchName.most_runs g.S.AnsweredSource.comes g.K.Sink.holds g.K.PartingSink.parts c.args.source.now
    c.args.sink.now
    c.args.session_seat.now c.serve.new.source c.serve.new.sink c.serve.new.backend c.serve.result
    c.serve.ensures.served)

pub returns-clause-left : goal.returns-clause-left
returns-clause-left g c =
    was_served g.L.LatchName.most_runs g.S.AnsweredSource.comes g.K.Sink.holds g.K.PartingSink.parts c.args.source.now
    c.args.sink.now
    c.args.session_seat.now c.serve.new.source c.serve.new.sink c.serve.new.backend c.serve.result
    c.serve.ensures.served
