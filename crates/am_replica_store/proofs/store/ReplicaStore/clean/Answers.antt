use Rattle.std.proofs.Common.{refl, sym, subst}
use Rattle.am_record.specs.declared.step.Step.TheVariants.{Clean}
use Rattle.am_replica_store.specs.Alone.{IsIdle}
use Rattle.am_replica_store.proofs.Alone.{kept_alone}
use Rattle.am_replica_store.proofs.store.ReplicaStore.clean.Goals as goal

pub invariant_of-self : goal.invariant_of-self
invariant_of-self c = kept_alone c.self.inside.store c.step.new.self c.self.inside.active
    (Clean c.args.range c.args.limit)
    c.step.result c.self.invariant (subst (λ p. IsIdle p) (sym c.self.view_is) c.requires) refl c.step.ensures.goes
