use Rattle.std.proofs.Common.{refl, ◌∙◌}
use Rattle.am_store_tx.specs.declared.transaction.Transaction.{Transaction}
use Rattle.am_store_tx.specs.Active.{undo_log_of}
use Rattle.am_store_tx.specs.Txs.{Txs, with_log}
use Rattle.am_store_tx.proofs.Consistent.{IsAt, few-ops, IsConsistent-set, set-is}
use Rattle.am_store_tx.proofs.tx_table.TxTable.undo.Goals as goal

pub invariant_of-self-lent : goal.invariant_of-self-lent
invariant_of-self-lent c = λ w.
    let x : Transaction = c.in-Some.transaction.now in
    let here : Txs = record {
      begun = c.self.inside.begun;
      active = c.self.inside.active.items;
      locks = c.self.inside.locks;
    } in
    let at : IsAt here here c.args.tx c.place_of-place.result x x = record {
      same = refl;
      in_bounds = c.place_of-place.ensures.in_bounds;
      value = c.in-Some.ensures.value;
      write = λ f. c.place_of-place.ensures.write f x;
    } in (
      IsConsistent-set here here c.args.tx c.place_of-place.result x x (λ y. record y { log = w }) c.self.invariant.0 at
          (λ y. refl) (few-ops here here c.args.tx c.place_of-place.result x x c.self.invariant.0 at),
      c.self.invariant.1,
    )

pub returns : goal.returns
returns c =
    let x : Transaction = c.in-Some.transaction.now in
    let here : Txs = record {
      begun = c.self.inside.begun;
      active = c.self.inside.active.items;
      locks = c.self.inside.locks;
    } in
    let at : IsAt here here c.args.tx c.place_of-place.result x x = record {
      same = refl;
      in_bounds = c.place_of-place.ensures.in_bounds;
      value = c.in-Some.ensures.value;
      write = λ f. c.place_of-place.ensures.write f x;
    } in (
      (
        refl,
        λ w. set-is here here c.args.tx c.place_of-place.result x x (λ y. record y { log = w }) at ∙
            (λ i. with_log (c.self.view_is i) c.args.tx w),
      ),
      record {
        writes_back = tt;
        log = (λ i. (at.value i).log) ∙ (c.place_of-place.ensures.found x).2 ∙
            (λ i. undo_log_of (c.self.view_is i).active c.args.tx);
      },
    )
