use Rattle.std.proofs.Common.{◌∙◌, ap, subst}
use Rattle.am_law_sound.specs.StoreState.{MayAnswer, state_after}
use Rattle.am_store.specs.InnerState.{inner_state}
use Rattle.am_store.proofs.store.step_there.Goals as goal

pub returns-clause-says : goal.returns-clause-says
returns-clause-says g c = subst (λ k. MayAnswer (inner_state k) c.args.step c.step.result)
    c.deref_mut-inner.ensures.value c.step.ensures.says

pub returns-clause-after : goal.returns-clause-after
returns-clause-after g c = c.step.ensures.after ∙ ap (λ k. state_after (inner_state k) c.args.step c.step.result)
    c.deref_mut-inner.ensures.value
