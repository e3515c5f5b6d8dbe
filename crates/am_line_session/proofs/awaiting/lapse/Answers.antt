use Rattle.std.proofs.Common.{◌≡◌, ◌∙◌, [], ◌∷◌, refl, ap, subst}
use Rattle.am_record.specs.Sessions.{active_after}
use Rattle.am_record.specs.declared.step.Step.TheVariants.{Abort}
use Rattle.am_record.specs.declared.step.Reply.{Reply}
use Rattle.am_record.specs.declared.step.Reply.TheVariants.{Aborted}
use Rattle.am_line_dialogue.specs.Session.{SessionState, staged_after}
use Rattle.am_line_session.proofs.awaiting.lapse.Goals as goal

pub returns-clause-waited : goal.returns-clause-waited
returns-clause-waited g c =
    let old = c.args.backend.now in
    let is : c.call-reply.result ≡ Aborted = c.call-reply.ensures.aborted in (
      (Abort c.args.tx, Aborted) ∷ [],
      (
        c.call-reply.ensures.active ∙ ap (λ (r : Reply). active_after (g.B.Backend.means.active old) r) is,
        (
          c.requires.lapses,
          (
            c.args.tx,
            c.requires.active ∙ c.requires.its,
            (
              subst (λ (r : Reply). g.B.Backend.means.steps old (Abort c.args.tx) r c.call-reply.new.self) is
                  c.call-reply.ensures.steps,
              refl,
              ap (λ (s : SessionState). s.staged) c.reply.ensures ∙
                  ap (λ (r : Reply). staged_after c.args.session.now.staged r) is,
            ),
          ),
        ),
      ),
    )
