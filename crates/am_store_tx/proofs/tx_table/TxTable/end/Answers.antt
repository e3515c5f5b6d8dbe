use Rattle.std.proofs.Common.{◌≡◌, not, ◌==◌, subst, sym, ◌∙◌, arith, rules}
use Rattle.std.proofs.lemmas.Fn.{filter_same}
use Rattle.am_store_tx.specs.declared.transaction.Transaction.{Transaction}
use Rattle.am_store_tx.specs.Txs.{Txs, IsConsistent, txs_after_end}
use Rattle.am_store_tx.proofs.Consistent.{owns, IsConsistent-txs_after_end}
use Rattle.am_store_tx.proofs.tx_table.TxTable.end.Goals as goal

pub release-requires : goal.release-requires
release-requires c = owns _ _ c.args.tx c.self.invariant.0 c.self.view_is c.requires

pub invariant_of-self : goal.invariant_of-self
invariant_of-self c =
    let left = filter_same _ (λ (x : Transaction). not (x.number == c.args.tx)) _ (λ x b f' called. search rules) _ _
    c.retain.ensures.filtered in (
      subst IsConsistent (λ i. record {
        begun = c.self.inside.begun;
        active = sym left i;
        locks = sym c.release.ensures i;
      }) (IsConsistent-txs_after_end _ c.args.tx c.self.invariant.0),
      omega (arith, c.retain.ensures.capacity, c.self.invariant.1),
    )

pub returns : goal.returns
returns c =
    let left = filter_same _ (λ (x : Transaction). not (x.number == c.args.tx)) _ (λ x b f' called. search rules) _ _
    c.retain.ensures.filtered in
    let here : Txs = record {
      begun = c.self.inside.begun;
      active = c.self.inside.active.items;
      locks = c.self.inside.locks;
    } in
    let now : here ≡ c.args.self.now = c.self.view_is in
    (λ i. record {
      begun = c.self.inside.begun;
      active = left i;
      locks = c.release.ensures i;
    }) ∙ (λ i. txs_after_end (now i) c.args.tx)
