use Rattle.am_latch_engine.proofs.StoreAnswers.{goes, is_bounded_by}
use Rattle.am_latch_engine.proofs.FullSeats.{never_full_by}
use Rattle.am_latch_engine.proofs.step.take_step.Goals as goal

pub returns-clause-goes : goal.returns-clause-goes
returns-clause-goes g c = λ h has. goes h _ _ c.args.step _ has (c.steps_lift.ensures.fit h _ has.stands.at)
    c.step.ensures.says c.step.ensures.after c.step.ensures.refused c.step.ensures.goes

pub returns-clause-bounded : goal.returns-clause-bounded
returns-clause-bounded g c = λ h has. is_bounded_by h c.args.step _ _ (c.step.ensures.goes.on h has.stands.at)
    c.step.ensures.within

pub returns-clause-own : goal.returns-clause-own
returns-clause-own g c = λ h has. never_full_by h c.args.step _ _ (c.step.ensures.goes.on h has.stands.at)
