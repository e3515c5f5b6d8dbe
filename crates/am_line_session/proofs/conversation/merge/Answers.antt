use Rattle.std.proofs.Common.{ap}
use Rattle.std.proofs.lemmas.Bool.{ne_eqb}
use Rattle.am_line_dialogue.specs.Session.{SessionState}
use Rattle.am_line_session.proofs.HeardLines.{merged_once}
use Rattle.am_line_session.proofs.conversation.merge.Goals as goal

pub returns-then-auto-ne0-clause-merged : goal.returns-then-auto-ne0-clause-merged
returns-then-auto-ne0-clause-merged g c =
    merged_once g.B.Backend.means c.args.auto (c.args.backend.now, c.args.session.now.staged)
    (c.call-reply.new.self, c.reply.new.self.staged) c.call-reply.result
    (ne_eqb _ _ c.if-auto-ne0.true) c.call-reply.ensures.steps (ap (λ (s : SessionState). s.staged) c.reply.ensures)
