use Rattle.std.proofs.Common.{List, inl, inr, ⊎_elim, sym, subst}
use Rattle.am_index_parts.specs.declared.apart_runs.ApartRun.{ApartRun}
use Rattle.am_index_parts.specs.ApartRuns.{AreInOrder, StandsApart}
use Rattle.am_index_parts.proofs.ApartRuns.{in_order_without, stands_or_gone}
use Rattle.am_index_parts.proofs.apart_runs.ApartRuns.remove.Goals as goal

pub returns-clause-order : goal.returns-clause-order
returns-clause-order c = subst AreInOrder (sym c.remove.ensures.items)
    (in_order_without c.args.self.now.list.items c.args.at c.requires.order)

pub returns-clause-others : goal.returns-clause-others
returns-clause-others c = λ part key d it.
    ⊎_elim
    (λ stays. inl (subst (λ (l : List ApartRun). StandsApart l part key) (sym c.remove.ensures.items) stays))
    (λ gone. inr gone)
    (stands_or_gone part key c.args.self.now.list.items c.args.at d it)
