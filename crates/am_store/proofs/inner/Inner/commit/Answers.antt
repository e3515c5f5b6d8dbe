use Rattle.std.proofs.Common.{true, false, ◌+◌, refl, sym, ap, ◌∙◌, arith}
use Rattle.am_store_tx.specs.Active.{is_active_in}
use Rattle.am_store_tx.specs.Txs.{Txs, txs_after_end}
use Rattle.am_store.proofs.StepsKeep.{some_active}
use Rattle.am_store.proofs.TransactionEnds.{is_in-inner, committed}
use Rattle.am_store.proofs.inner.Inner.commit.Goals as goal

pub returns-then-not-is_active-clause-says : goal.returns-then-not-is_active-clause-says
returns-then-not-is_active-clause-says g c =
    let sought = ap (λ (t : Txs). is_active_in t.active c.args.tx) (sym c.seek.ensures.same) in
    is_in-inner c.args.self.now.txs c.args.tx false (sought ∙ sym c.is_active.ensures.active ∙ c.if-not-is_active.true)

pub returns-clause-says : goal.returns-clause-says
returns-clause-says g c =
    let sought = ap (λ (t : Txs). is_active_in t.active c.args.tx) (sym c.seek.ensures.same) in (
      is_in-inner c.args.self.now.txs c.args.tx true (sought ∙ sym c.is_active.ensures.active ∙
          c.if-not-is_active.false),
      refl,
    )

pub returns-clause-after : goal.returns-clause-after
returns-clause-after g c =
    let old = c.args.self.now in
    committed old.most_runs old.parts old.txs old.wishes old.commits c.end.new.self c.args.tx (old.commits + 1)
    (c.end.ensures ∙ ap (λ (t : Txs). txs_after_end t c.args.tx) c.seek.ensures.same)

pub overflow_add-self : goal.overflow_add-self
overflow_add-self g c =
    let old = c.args.self.now in
    let sought = ap (λ (t : Txs). is_active_in t.active c.args.tx) (sym c.seek.ensures.same) in
    let some = some_active old.txs.active c.args.tx (sought ∙ sym c.is_active.ensures.active ∙
    c.if-not-is_active.false) in
    omega (arith, c.requires, some)
