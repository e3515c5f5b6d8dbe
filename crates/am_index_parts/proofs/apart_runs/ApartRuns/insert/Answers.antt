use Rattle.std.proofs.Common.{List, take, drop, refl, sym, subst}
use Rattle.am_record.specs.OrderedKey.{OrderedKey}
use Rattle.am_index_parts.specs.declared.apart_runs.ApartRun.{ApartRun}
use Rattle.am_index_parts.specs.ApartRuns.{AreInOrder, StandsApart}
use Rattle.am_index_parts.proofs.ApartRuns.{EndBefore, EndLater, in_order_with, stands_still, stands_new}
use Rattle.am_index_parts.proofs.apart_runs.ApartRuns.insert.Goals as goal

pub returns-clause-order : goal.returns-clause-order
returns-clause-order c =
    let rs : List ApartRun = c.args.self.now.list.items in
    let at = c.first_from-at.result in
    let lo = c.lo.ensures.value in
    subst AreInOrder (sym c.in_ok-insert.ensures.items)
    (in_order_with rs at c.args.run c.requires.order c.requires.clear c.lo.ensures.ordered
    (subst (λ (k : OrderedKey). EndBefore k (take at rs)) lo c.first_from-at.ensures.before)
    (subst (λ (k : OrderedKey). EndLater k (drop at rs)) lo c.first_from-at.ensures.from))

pub returns-clause-kept : goal.returns-clause-kept
returns-clause-kept c = λ part key it.
    subst (λ (l : List ApartRun). StandsApart l part key) (sym c.in_ok-insert.ensures.items)
    (stands_still part key c.args.self.now.list.items c.first_from-at.result c.args.run it)

pub returns-clause-stands : goal.returns-clause-stands
returns-clause-stands c = λ key there.
    subst (λ (l : List ApartRun). StandsApart l c.args.run.part key) (sym c.in_ok-insert.ensures.items)
    (stands_new c.args.run.part key c.args.self.now.list.items c.first_from-at.result c.args.run refl there)
