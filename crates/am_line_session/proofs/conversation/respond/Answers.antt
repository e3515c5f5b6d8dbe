use Rattle.std.proofs.Common.{[], ◌∷◌, refl, ap}
use Rattle.am_line_dialogue.specs.Session.{SessionState}
use Rattle.am_line_dialogue.specs.declared.action.Action.TheVariants.{Answer, Take, TellSeen, AskHold, TellWho, AskEnd}
use Rattle.am_line_session.proofs.HeardLines.{due_at}
use Rattle.am_line_session.proofs.conversation.respond.Goals as goal

pub returns-in-Answer-clause-responds : goal.returns-in-Answer-clause-responds
returns-in-Answer-clause-responds g c = (
  [],
  (
    Answer c.in-Answer.response,
    c.action.new.self.staged,
    due_at (g.B.Backend.means.active c.args.backend.now) c.args.session.now c.action.new.self c.args.parsed
        (Answer c.in-Answer.response) c.requires c.action.ensures.active (rw c.in-Answer.is at c.action.ensures.action),
    (refl, (refl, refl)),
  ),
)

pub returns-in-Take-clause-responds : goal.returns-in-Take-clause-responds
returns-in-Take-clause-responds g c = (
  (c.in-Take.step, c.call-reply.result) ∷ [],
  (
    Take c.in-Take.step,
    c.action.new.self.staged,
    due_at (g.B.Backend.means.active c.args.backend.now) c.args.session.now c.action.new.self c.args.parsed
        (Take c.in-Take.step) c.requires c.action.ensures.active (rw c.in-Take.is at c.action.ensures.action),
    (
      c.call-reply.result,
      refl,
      (c.call-reply.ensures.steps, refl, ap (λ (s : SessionState). s.staged) c.reply.ensures),
    ),
  ),
)

pub returns-in-TellSeen-clause-responds : goal.returns-in-TellSeen-clause-responds
returns-in-TellSeen-clause-responds g c = (
  [],
  (
    TellSeen,
    c.action.new.self.staged,
    due_at (g.B.Backend.means.active c.args.backend.now) c.args.session.now c.action.new.self c.args.parsed TellSeen
        c.requires c.action.ensures.active (rw c.in-TellSeen.is at c.action.ensures.action),
    (c.seen-session.result.0, c.seen-session.result.1, refl, (c.seen-session.ensures.shows, refl, refl)),
  ),
)

pub returns-in-AskHold-clause-responds : goal.returns-in-AskHold-clause-responds
returns-in-AskHold-clause-responds g c = (
  [],
  (
    AskHold c.in-AskHold.millis,
    c.action.new.self.staged,
    due_at (g.B.Backend.means.active c.args.backend.now) c.args.session.now c.action.new.self c.args.parsed
        (AskHold c.in-AskHold.millis) c.requires c.action.ensures.active
        (rw c.in-AskHold.is at c.action.ensures.action),
    (c.hold.result, refl, (c.hold.ensures.holds, (refl, refl))),
  ),
)

pub returns-in-TellWho-clause-responds : goal.returns-in-TellWho-clause-responds
returns-in-TellWho-clause-responds g c = (
  [],
  (
    TellWho c.in-TellWho.which,
    c.action.new.self.staged,
    due_at (g.B.Backend.means.active c.args.backend.now) c.args.session.now c.action.new.self c.args.parsed
        (TellWho c.in-TellWho.which) c.requires c.action.ensures.active
        (rw c.in-TellWho.is at c.action.ensures.action),
    (c.who.result, c.of_who.ensures, (c.who.ensures.tells, (refl, refl))),
  ),
)

pub returns-in-AskEnd-clause-responds : goal.returns-in-AskEnd-clause-responds
returns-in-AskEnd-clause-responds g c = (
  [],
  (
    AskEnd c.in-AskEnd.number,
    c.action.new.self.staged,
    due_at (g.B.Backend.means.active c.args.backend.now) c.args.session.now c.action.new.self c.args.parsed
        (AskEnd c.in-AskEnd.number) c.requires c.action.ensures.active
        (rw c.in-AskEnd.is at c.action.ensures.action),
    (c.end.result, refl, (c.end.ensures.ends, (refl, refl))),
  ),
)
