use Rattle.std.proofs.Common.{◌+◌, get_or, refl, ◌∙◌, arith}
use Rattle.am_store_tx.specs.declared.transaction.Transaction.{Transaction}
use Rattle.am_store_tx.specs.Txs.{Txs}
use Rattle.am_store_tx.proofs.Consistent.{IsAt, IsConsistent-set, set-is}
use Rattle.am_store_tx.proofs.tx_table.TxTable.count_op.Goals as goal

pub invariant_of-self : goal.invariant_of-self
invariant_of-self c =
    let place = c.place_of-place.result in
    let x : Transaction = c.index_mut-transaction.result.now in
    let here : Txs = record {
      begun = c.self.inside.begun;
      active = c.self.inside.active.items;
      locks = c.self.inside.locks;
    } in
    let at : IsAt here c.args.self.now c.args.tx place x x = record {
      same = c.self.view_is;
      in_bounds = c.place_of-place.ensures.in_bounds;
      value = c.index_mut-transaction.ensures.value;
      write = λ f. c.place_of-place.ensures.write f x;
    } in
    let ops = (λ i. (at.value i).ops) ∙ (λ i. (get_or (at.same i).active place x).ops) ∙
    (c.place_of-place.ensures.found x).1 in (
      IsConsistent-set here c.args.self.now c.args.tx place x x (λ y. record y { ops = y.ops + 1 }) c.self.invariant.0
          at
          (λ y. refl) (omega (arith, ops, c.requires.few)),
      c.self.invariant.1,
    )

pub returns : goal.returns
returns c =
    let place = c.place_of-place.result in
    let x : Transaction = c.index_mut-transaction.result.now in
    let here : Txs = record {
      begun = c.self.inside.begun;
      active = c.self.inside.active.items;
      locks = c.self.inside.locks;
    } in
    let at : IsAt here c.args.self.now c.args.tx place x x = record {
      same = c.self.view_is;
      in_bounds = c.place_of-place.ensures.in_bounds;
      value = c.index_mut-transaction.ensures.value;
      write = λ f. c.place_of-place.ensures.write f x;
    } in
    set-is here c.args.self.now c.args.tx place x x (λ y. record y { ops = y.ops + 1 }) at
