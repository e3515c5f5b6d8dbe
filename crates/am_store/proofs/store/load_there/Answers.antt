use Rattle.std.proofs.Common.{◌∙◌, subst}
use Rattle.am_record.specs.Plain.{Records}
use Rattle.am_record.specs.declared.step.Op.TheVariants.{Load}
use Rattle.am_record.specs.declared.step.Step.TheVariants.{Do}
use Rattle.am_law_sound.specs.StoreState.{MayAnswer, state_after}
use Rattle.am_store.specs.InnerState.{inner_state}
use Rattle.am_store.proofs.store.load_there.Goals as goal

pub returns-clause-says : goal.returns-clause-says
returns-clause-says g c =
    subst (λ (rs : Records). MayAnswer (inner_state c.args.inner.now.value) (Do c.args.tx (Load rs)) c.operate.result)
    c.new.ensures
    (subst (λ k. MayAnswer (inner_state k) (Do c.args.tx (Load c.new.result)) c.operate.result)
    c.deref_mut-inner.ensures.value c.operate.ensures.says)

pub returns-clause-after : goal.returns-clause-after
returns-clause-after g c = c.operate.ensures.after ∙ (λ i. state_after
    (inner_state (c.deref_mut-inner.ensures.value i)) (Do c.args.tx (Load (c.new.ensures i))) c.operate.result)
