use Rattle.std.proofs.Common.{◌∙◌, ap, subst}
use Rattle.am_record.specs.declared.step.Op.TheVariants.{Load}
use Rattle.am_record.specs.declared.step.Step.{Step}
use Rattle.am_record.specs.declared.step.Step.TheVariants.{Do}
use Rattle.am_law_sound.specs.StoreState.{StoreState, MayAnswer, state_after}
use Rattle.am_store.specs.InnerState.{inner_state}
use Rattle.am_store.proofs.StepsKeep.{reaches}
use Rattle.am_store.proofs.Rooms.{have_room}
use Rattle.am_store.proofs.StoreSteps.{goes, stays}
use Rattle.am_store.proofs.store.Store.load.Goals as goal

pub load_there-requires-clause-fit : goal.load_there-requires-clause-fit
load_there-requires-clause-fit g c = c.steps_lift.ensures.fit c.self.invariant.0.trace
    (inner_state c.self.inside.inner.value) c.self.invariant.0.at

pub load_there-requires-clause-runs : goal.load_there-requires-clause-runs
load_there-requires-clause-runs g c = c.self.invariant.0.few_runs

pub invariant_of-self : goal.invariant_of-self
invariant_of-self g c =
    let step : Step = Do c.args.tx (Load (g.S.RecordSource.records c.args.source.now)) in
    let old = c.self.inside.inner.value in
    let new = c.load_there.new.inner.value in
    let fit = c.steps_lift.ensures.fit c.self.invariant.0.trace (inner_state old) c.self.invariant.0.at in
    let reached = reaches (inner_state old) (inner_state new) step c.load_there.result
    (λ trace. c.steps_lift.ensures.lift trace (inner_state old) step c.load_there.result) c.self.invariant.0
    c.load_there.ensures.says c.load_there.ensures.after in (
      reached,
      record {
        values = c.load_there.ensures.rooms.have;
        noted = have_room (inner_state old) old.parts.roomy fit.rising c.self.invariant.1.values
            c.self.invariant.1.noted
            (inner_state new) step c.load_there.result c.load_there.ensures.after
            (c.steps_lift.ensures.fit reached.trace (inner_state new) reached.at) new.parts.roomy
            c.load_there.ensures.rooms;
      },
    )

pub returns-clause-goes : goal.returns-clause-goes
returns-clause-goes g c =
    let step : Step = Do c.args.tx (Load (g.S.RecordSource.records c.args.source.now)) in
    goes c.args.self.now (inner_state c.load_there.new.inner.value) step c.load_there.result
    c.steps_lift.ensures.lift c.steps_lift.ensures.sound
    (subst (λ (p : StoreState). MayAnswer p step c.load_there.result) c.self.view_is c.load_there.ensures.says)
    (c.load_there.ensures.after ∙ ap (λ (p : StoreState). state_after p step c.load_there.result)
    c.self.view_is)

pub returns-clause-refused : goal.returns-clause-refused
returns-clause-refused g c =
    let step : Step = Do c.args.tx (Load (g.S.RecordSource.records c.args.source.now)) in
    stays c.args.self.now (inner_state c.load_there.new.inner.value) step
    c.load_there.result (c.load_there.ensures.after ∙
    ap (λ (p : StoreState). state_after p step c.load_there.result) c.self.view_is)
