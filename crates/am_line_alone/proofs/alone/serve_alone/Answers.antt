use Rattle.std.proofs.Common.{◌≡◌, ℕ, List, []}
use Rattle.am_line_source.specs.SourceReads.{Took}
use Rattle.am_line_sink.specs.SinkWrites.{Gave}
use Rattle.am_line_dialogue.specs.Conversation.{AnswersAll}
use Rattle.am_line_session.specs.ServedSessions.{PartsBehind}
use Rattle.am_line_alone.specs.Solo.{solo_meaning, IsSpoken}
use Rattle.am_line_session.proofs.Ends.{ends_by}
use Rattle.am_line_alone.proofs.StoreSessions.{spoken}
use Rattle.am_line_alone.proofs.alone.serve_alone.Goals as goal

pub returns-clause-spoke : goal.returns-clause-spoke
returns-clause-spoke g c =
    let auto = c.args.auto in
    let s0 = c.in-Ok.store in
    let b = c.serve.new.backend in
    let took : List ℕ → Type 0 = λ bytes. Took g.S.AnsweredSource.comes c.args.source.now bytes c.serve.new.source in
    let gave : List ℕ → Type 0 = λ text. Gave g.K.Sink.holds c.args.sink.now text c.serve.new.sink in
    let done : Type 0 = g.S.AnsweredSource.comes c.serve.new.source [] in
    ends_by took took gave gave
    (PartsBehind g.K.Sink.holds (λ x y z. Unit {0}) c.args.sink.now c.serve.new.sink b) (λ text. Unit {0}) done done
    (λ exchanges torn events. AnswersAll solo_meaning auto s0 exchanges torn events b) (IsSpoken auto) (b ≡ s0)
    (Unit {0}) (λ bytes h. h) (λ text h. h) (λ text h. tt) (λ h. h)
    (spoken auto s0 b c.in-Ok.ensures (c.steps_lift.ensures.opened 65535) c.steps_lift.ensures.sound
    (c.sound_traces_are_legal.ensures 65535) (c.sound_dialogues_say.ensures auto)
    (c.answers_are_lines.ensures 65535 auto))
    (λ h. tt) c.serve.result c.serve.ensures.served
