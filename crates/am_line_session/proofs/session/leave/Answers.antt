use Rattle.std.proofs.Common.{ℕ, Option, [], ◌∷◌, refl, sym, subst}
use Rattle.am_record.specs.declared.step.Step.TheVariants.{Abort}
use Rattle.am_record.specs.declared.step.Reply.{Reply}
use Rattle.am_record.specs.declared.step.Reply.TheVariants.{Aborted}
use Rattle.am_law_serial.specs.Trace.{Trace}
use Rattle.am_line_dialogue.specs.Conversation.{Leaves}
use Rattle.am_line_session.proofs.session.leave.Goals as goal

pub returns-in-Some-clause-left : goal.returns-in-Some-clause-left
returns-in-Some-clause-left g c =
    let goes = subst (λ (r : Reply). g.B.Backend.means.steps c.args.backend.now (Abort c.in-Some.tx) r c.call.new.self)
    c.call.ensures.aborted c.call.ensures.steps in
    subst (λ (a : Option ℕ). (events : Trace) × Leaves g.B.Backend.means a c.args.backend.now events c.call.new.self)
    (sym c.in-Some.is) ((Abort c.in-Some.tx, Aborted) ∷ [], (goes, refl))
