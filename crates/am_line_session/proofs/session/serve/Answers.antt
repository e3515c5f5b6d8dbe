use Rattle.std.proofs.Common.{◌∙◌, sym}
use Rattle.am_line_session.proofs.LastAborts.{ended_whole, ended_itself, ended_failed, ended_torn, ended_quit}
use Rattle.am_line_session.proofs.LastAborts.{ended_by_another}
use Rattle.am_line_session.proofs.LastAborts.{ended_bye_torn}
use Rattle.am_line_session.proofs.session.serve.Goals as goal

pub returns-in-EndedItself-clause-served : goal.returns-in-EndedItself-clause-served
returns-in-EndedItself-clause-served g c =
    ended_itself g.S.AnsweredSource.comes g.K.Sink.holds g.K.PartingSink.parts g.B.Backend.means c.args.auto
    c.args.source.now c.talk-stop.new.source c.args.sink.now c.talk-stop.new.sink c.args.backend.now
    (c.talk-stop.new.backend, c.talk-stop.new.session.staged) c.leave.new.backend c.active.result
    (c.active.ensures ∙ sym c.talk-stop.ensures.active) c.leave.ensures.left
    (rw c.new-session.ensures at c.in-EndedItself.ensures.talked)

pub returns-in-EndedByAnother-clause-served : goal.returns-in-EndedByAnother-clause-served
returns-in-EndedByAnother-clause-served g c =
    ended_by_another g.S.AnsweredSource.comes g.K.Sink.holds g.K.PartingSink.parts g.B.Backend.means c.args.auto
    c.args.source.now c.talk-stop.new.source c.args.sink.now c.talk-stop.new.sink c.args.backend.now
    (c.talk-stop.new.backend, c.talk-stop.new.session.staged) c.leave.new.backend c.active.result
    (c.active.ensures ∙ sym c.talk-stop.ensures.active) c.leave.ensures.left
    (rw c.new-session.ensures at c.in-EndedByAnother.ensures.talked)

pub returns-in-EndOfInput-clause-served : goal.returns-in-EndOfInput-clause-served
returns-in-EndOfInput-clause-served g c =
    ended_whole g.S.AnsweredSource.comes g.K.Sink.holds g.K.PartingSink.parts g.B.Backend.means c.args.auto
    c.args.source.now c.talk-stop.new.source c.args.sink.now c.talk-stop.new.sink c.args.backend.now
    (c.talk-stop.new.backend, c.talk-stop.new.session.staged) c.leave.new.backend c.active.result
    (c.active.ensures ∙ sym c.talk-stop.ensures.active) c.leave.ensures.left
    (rw c.new-session.ensures at c.in-EndOfInput.ensures.talked)

pub returns-in-ReadFailed-clause-served : goal.returns-in-ReadFailed-clause-served
returns-in-ReadFailed-clause-served g c =
    ended_failed g.S.AnsweredSource.comes g.K.Sink.holds g.K.PartingSink.parts g.B.Backend.means c.args.auto
    c.args.source.now c.talk-stop.new.source c.args.sink.now c.talk-stop.new.sink c.args.backend.now
    (c.talk-stop.new.backend, c.talk-stop.new.session.staged) c.leave.new.backend c.active.result
    (c.active.ensures ∙ sym c.talk-stop.ensures.active) c.leave.ensures.left
    (rw c.new-session.ensures at c.in-ReadFailed.ensures.talked)

pub returns-in-WriteFailed-clause-served : goal.returns-in-WriteFailed-clause-served
returns-in-WriteFailed-clause-served g c =
    ended_torn g.S.AnsweredSource.comes g.K.Sink.holds g.K.PartingSink.parts g.B.Backend.means c.args.auto
    c.args.source.now c.talk-stop.new.source c.args.sink.now c.talk-stop.new.sink c.args.backend.now
    (c.talk-stop.new.backend, c.talk-stop.new.session.staged) c.leave.new.backend c.active.result
    (c.active.ensures ∙ sym c.talk-stop.ensures.active) c.leave.ensures.left
    (rw c.new-session.ensures at c.in-WriteFailed.ensures.talked)

pub returns-in-Ok-say_bye-clause-served : goal.returns-in-Ok-say_bye-clause-served
returns-in-Ok-say_bye-clause-served g c =
    ended_quit g.S.AnsweredSource.comes g.K.Sink.holds g.K.PartingSink.parts g.B.Backend.means c.args.auto
    c.args.source.now c.talk-stop.new.source c.args.sink.now c.talk-stop.new.sink c.args.backend.now
    (c.talk-stop.new.backend, c.talk-stop.new.session.staged) c.leave.new.backend c.active.result
    (c.active.ensures ∙ sym c.talk-stop.ensures.active) c.leave.ensures.left
    c.say_bye.new.self (rw c.new-session.ensures at c.in-Quit.ensures.talked) c.in-Ok-say_bye.ensures.wrote.given
    c.say_bye.ensures.parted

pub returns-clause-served : goal.returns-clause-served
returns-clause-served g c =
    ended_bye_torn g.S.AnsweredSource.comes g.K.Sink.holds g.K.PartingSink.parts g.B.Backend.means c.args.auto
    c.args.source.now c.talk-stop.new.source c.args.sink.now c.talk-stop.new.sink c.args.backend.now
    (c.talk-stop.new.backend, c.talk-stop.new.session.staged) c.leave.new.backend c.active.result
    (c.active.ensures ∙ sym c.talk-stop.ensures.active) c.leave.ensures.left
    c.say_bye.new.self (rw c.new-session.ensures at c.in-Quit.ensures.talked) c.in-Err.ensures.wrote.torn
    c.say_bye.ensures.parted
