use Rattle.std.proofs.Common.{◌≡◌, ℕ, List, Some, sym, subst, ◌∙◌}
use Rattle.std.proofs.lemmas.Result.{on_ok_weaker}
use Rattle.am_record.specs.Plain.{PlainMap}
use Rattle.am_record.specs.declared.step.Op.{Op}
use Rattle.am_replica.specs.Bodies.{own_behind}
use Rattle.am_law_sound.specs.StoreState.{StoreState}
use Rattle.am_replica_store.specs.Alone.{IsAlone, IsInside}
use Rattle.am_replica_store.proofs.Alone.{inside_active, inside_now, inside_map, still_alone}
use Rattle.am_replica_store.proofs.store.ReplicaStoreMachine.go_on.Goals as goal

pub invariant_of-self : goal.invariant_of-self
invariant_of-self c = subst (λ a. IsAlone c.answer.new.store a) (sym c.in-Some.is)
    (still_alone c.answer.result c.self.inside.store c.answer.new.store c.in-Some.tx c.args.op.now c.answer.ensures.goes
    c.answer.ensures.same (subst (λ a. IsAlone c.self.inside.store a) c.in-Some.is c.self.invariant))

-- the transaction that is active is the one that was answered these operations
inside : (p q : StoreState) (t : ℕ) (own : List Op) (m : PlainMap) → q ≡ p → IsAlone q (Some t) →
    IsInside p p.begun own m → IsInside q t own m
inside p q t own m is alone h =
    inside_active q t q.begun own m alone (subst (λ (s : StoreState). IsInside s s.begun own m) (sym is) h)

pub returns-clause-answer : goal.returns-clause-answer
returns-clause-answer c own m h = c.answer.ensures.told own m
    (inside c.args.self.now c.self.inside.store c.in-Some.tx own m c.self.view_is
    (subst (λ a. IsAlone c.self.inside.store a) c.in-Some.is c.self.invariant) h)

pub returns-clause-inside : goal.returns-clause-inside
returns-clause-inside c own m h = on_ok_weaker c.answer.result
    (λ (there : IsInside c.answer.new.store c.in-Some.tx (own_behind own c.args.op.now) m).
    inside_now c.answer.new.store c.in-Some.tx (own_behind own c.args.op.now) m there)
    (c.answer.ensures.goes own m (inside c.args.self.now c.self.inside.store c.in-Some.tx own m c.self.view_is
    (subst (λ a. IsAlone c.self.inside.store a) c.in-Some.is c.self.invariant) h))

pub returns-clause-same : goal.returns-clause-same
returns-clause-same c own m h =
    let here = inside c.args.self.now c.self.inside.store c.in-Some.tx own m c.self.view_is
    (subst (λ a. IsAlone c.self.inside.store a) c.in-Some.is c.self.invariant) h in
    on_ok_weaker c.answer.result
    (λ (there : IsInside c.answer.new.store c.in-Some.tx (own_behind own c.args.op.now) m).
    inside_map c.answer.new.store c.in-Some.tx (own_behind own c.args.op.now) m there c.steps_lift.ensures.lift
    c.steps_lift.ensures.sound
    ∙ sym (inside_map c.args.self.now c.args.self.now.begun own m h c.steps_lift.ensures.lift
    c.steps_lift.ensures.sound))
    (c.answer.ensures.goes own m here)
