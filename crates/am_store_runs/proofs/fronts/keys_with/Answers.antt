use Rattle.std.proofs.Common.{ap, ◌∙◌, arith}
use Rattle.std.proofs.lemmas.List.{take_all}
use Rattle.am_store_runs.proofs.Apart.{keys_by_orders, keys_are}
use Rattle.am_store_runs.proofs.fronts.keys_with.Goals as goal

pub returns : goal.returns
returns g c =
    let rs = g.S.RecordSource.records c.args.source.now in
    let orders = c.args.orders.now in
    c.loop-order.invariant
    ∙ ap (keys_by_orders rs c.args.fronts.now)
    (take_all c.loop-order.order-index orders (omega (arith, c.loop-order-test.false)))
    ∙ keys_are rs c.args.fronts.now orders
