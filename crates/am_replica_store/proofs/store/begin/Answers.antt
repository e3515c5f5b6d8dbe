use Rattle.std.proofs.Common.{[], ◌∷◌, IfOk, subst, sym}
use Rattle.am_record.specs.declared.step.Reply.{Reply}
use Rattle.am_record.specs.declared.step.Step.TheVariants.{Begin}
use Rattle.am_store.specs.StoreSteps.{Extends}
use Rattle.am_replica_store.specs.Alone.{draft_map, IsInside}
use Rattle.am_replica_store.proofs.Alone.{begun_inside}
use Rattle.am_replica_store.proofs.store.begin.Goals as goal
use Rattle.am_replica_store.proofs.store.begin.Goals.{in-Begun, in_default}

pub returns-clause-goes : goal.returns-clause-goes
returns-clause-goes c free =
    let old = c.args.store.now in
    let new = c.step.new.self in
    elim c.match-step.branch [
      | in-Begun w ↦ subst (λ r. IfOk r (λ tx. IsInside new tx [] (draft_map old))) (sym w.result-is)
          (begun_inside old new w.in-Begun.tx c.steps_lift.ensures.sound free
          (subst (λ (r : Reply). Extends old ((Begin, r) ∷ []) new) w.in-Begun.is c.step.ensures.goes))
      | in_default w ↦ subst (λ r. IfOk r (λ tx. IsInside new tx [] (draft_map old))) (sym w.result-is) tt
    ]
