use Rattle.std.proofs.Common.{drop, ◌++◌, subst, sym, ◌∙◌}
use Rattle.std.proofs.lemmas.List.{take-append-drop}
use Rattle.am_store_locks.specs.Chains.{AreChainsOf}
use Rattle.am_store_locks.proofs.owner.Owner.cut.Goals as goal

pub cut-requires-clause-chains : goal.cut-requires-clause-chains
cut-requires-clause-chains c =
    let gone = drop c.args.n c.self.inside.locks.items in (
      gone,
      subst (λ ls. AreChainsOf ls c.self.inside.chains.ends c.self.inside.chains.before.items)
          (sym ((λ i. (c.deref-2.ensures ∙ c.truncate.ensures.items) i ++ gone) ∙
          take-append-drop c.args.n c.self.inside.locks.items)) c.self.invariant.4,
    )
