use Rattle.std.proofs.Common.{◌<◌, ◌+◌, ◌++◌, ◌∷◌, [], ◌^◌, length, subst, sym, ◌∙◌, arith, rules}
use Rattle.am_store_tx.specs.Txs.{IsConsistent}
use Rattle.am_store_tx.proofs.Consistent.{next-is-new, IsConsistent-txs_after_begin}
use Rattle.am_store_tx.proofs.tx_table.TxTable.begin.Goals as goal

pub enter-requires-clause-new : goal.enter-requires-clause-new
enter-requires-clause-new c = next-is-new _ c.self.invariant.0

pub invariant_of-self : goal.invariant_of-self
invariant_of-self c =
    let few : length c.self.inside.active.items < 64 = search rules in
    let more : c.self.inside.begun < 2 ^ 63 = omega (arith, c.self.invariant.0.begun) in
    let all = c.in-Ok.ensures.items ∙ (λ i. c.self.inside.active.items ++ c.new-transaction.ensures i ∷ []) in (
      subst IsConsistent (λ i. record {
        begun = c.self.inside.begun + 1;
        active = sym all i;
        locks = sym c.enter.ensures i;
      }) (IsConsistent-txs_after_begin _ c.self.invariant.0 few more),
      omega (arith, c.push.ensures.capacity, c.self.invariant.1),
    )
