use Rattle.std.proofs.Common.{◌∙◌, ap, subst}
use Rattle.am_law_sound.specs.StoreState.{StoreState, MayAnswer, state_after}
use Rattle.am_store.specs.InnerState.{inner_state}
use Rattle.am_store.proofs.StepsKeep.{reaches, few_commits}
use Rattle.am_store.proofs.Rooms.{have_room}
use Rattle.am_store.proofs.StoreSteps.{goes, within, stays}
use Rattle.am_store.proofs.store.Store.step.Goals as goal

pub step_there-requires-clause-fit : goal.step_there-requires-clause-fit
step_there-requires-clause-fit g c = c.steps_lift.ensures.fit c.self.invariant.0.trace
    (inner_state c.self.inside.inner.value) c.self.invariant.0.at

pub step_there-requires-clause-few : goal.step_there-requires-clause-few
step_there-requires-clause-few g c = let old = c.self.inside.inner.value in few_commits old.most_runs old.parts old.txs
    old.wishes
    old.commits c.self.invariant.0

pub step_there-requires-clause-runs : goal.step_there-requires-clause-runs
step_there-requires-clause-runs g c = c.self.invariant.0.few_runs

pub invariant_of-self : goal.invariant_of-self
invariant_of-self g c =
    let old = c.self.inside.inner.value in
    let new = c.step_there.new.inner.value in
    let fit = c.steps_lift.ensures.fit c.self.invariant.0.trace (inner_state old) c.self.invariant.0.at in
    let reached = reaches (inner_state old) (inner_state new) c.args.step c.step_there.result
    (λ trace. c.steps_lift.ensures.lift trace (inner_state old) c.args.step c.step_there.result) c.self.invariant.0
    c.step_there.ensures.says c.step_there.ensures.after in (
      reached,
      record {
        values = c.step_there.ensures.rooms.have;
        noted = have_room (inner_state old) old.parts.roomy fit.rising c.self.invariant.1.values
            c.self.invariant.1.noted
            (inner_state new) c.args.step c.step_there.result c.step_there.ensures.after
            (c.steps_lift.ensures.fit reached.trace (inner_state new) reached.at) new.parts.roomy
            c.step_there.ensures.rooms;
      },
    )

pub returns-clause-goes : goal.returns-clause-goes
returns-clause-goes g c =
    goes c.args.self.now (inner_state c.step_there.new.inner.value) c.args.step c.step_there.result
    c.steps_lift.ensures.lift c.steps_lift.ensures.sound
    (subst (λ (p : StoreState). MayAnswer p c.args.step c.step_there.result) c.self.view_is c.step_there.ensures.says)
    (c.step_there.ensures.after ∙ ap (λ (p : StoreState). state_after p c.args.step c.step_there.result)
    c.self.view_is)

pub returns-clause-refused : goal.returns-clause-refused
returns-clause-refused g c = stays c.args.self.now (inner_state c.step_there.new.inner.value) c.args.step
    c.step_there.result (c.step_there.ensures.after ∙
    ap (λ (p : StoreState). state_after p c.args.step c.step_there.result) c.self.view_is)

pub returns-clause-within : goal.returns-clause-within
returns-clause-within g c = within c.args.self.now c.args.step c.step_there.result
    (subst (λ (p : StoreState). MayAnswer p c.args.step c.step_there.result) c.self.view_is c.step_there.ensures.says)
