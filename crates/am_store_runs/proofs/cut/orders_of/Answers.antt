use Rattle.std.proofs.Common.{rules, List, ◌≡◌, ◌+◌, ◌-◌, drop, sym, ap, ◌∙◌, subst, arith}
use Rattle.std.specs.Prelude.{length, min, Vec}
use Rattle.std.specs.declared.alloc.Global.{Global}
use Rattle.std.proofs.lemmas.List.{length-drop}
use Rattle.am_record.specs.Plain.{Records}
use Rattle.am_store_runs.specs.Cuts.{IsPieceFault, IsSortedPiece}
use Rattle.am_store_runs.specs.RecordPlaces.{AreOrders, records_at, piece, runs_named}
use Rattle.am_store_runs.specs.declared.record_order.Spot.{Spot}
use Rattle.am_store_runs.proofs.Orders.{orders_more, runs_more}
use Rattle.am_store_runs.proofs.Pieces.{IsCutting, cut_next, cut_whole, fault_of_piece}
use Rattle.am_store_runs.proofs.cut.orders_of.Goals as goal

pub loop-from-preserved : goal.loop-from-preserved
loop-from-preserved g c =
    let all = g.S.RecordSource.records c.args.source.now in
    let from = c.loop-from.from in
    let orders = c.loop-from.orders.items in
    let order = c.in_ok-order_of.field-0 in
    let size : c.min.result ≡ min c.args.n (length all - from) = c.min.ensures
    ∙ ap (λ k. min c.args.n (k - from)) c.len-len.ensures in
    let is : IsSortedPiece (piece all from (from + c.min.result)) (records_at all order.items) = record {
      rising = c.in_ok-order_of.ensures.order.rising;
      same = c.in_ok-order_of.ensures.same;
    } in
    record {
      within = omega (arith, size, c.loop-from.invariant.within);
      orders = subst (λ (l : List (Vec Spot Global)). AreOrders all l) (sym c.in_ok-push.ensures.items)
          (orders_more all orders order c.loop-from.invariant.orders c.in_ok-order_of.ensures.order);
      cutting = subst (λ (runs : List Records). IsCutting c.args.n all runs (drop (from + c.min.result) all))
          (sym (ap (runs_named all) c.in_ok-push.ensures.items ∙ runs_more all orders order))
          (cut_next from c.min.result (records_at all order.items) c.loop-from.invariant.within size
          c.loop-from.invariant.cutting is);
    }

pub returns-clause-runs : goal.returns-clause-runs
returns-clause-runs g c =
    let all = g.S.RecordSource.records c.args.source.now in
    cut_whole (runs_named all c.loop-from.orders.items) (drop c.loop-from.from all)
    (omega (arith, length-drop c.loop-from.from all, c.loop-from-test.false, c.len-len.ensures))
    c.loop-from.invariant.cutting

pub returns-in_err-order_of-clause-fault : goal.returns-in_err-order_of-clause-fault
returns-in_err-order_of-clause-fault g c =
    let all = g.S.RecordSource.records c.args.source.now in
    let is : IsPieceFault all c.in_err-order_of.field-0.0 =
    fault_of_piece all c.loop-from.from c.min.result c.in_err-order_of.field-0.0
    c.in_err-order_of.ensures.fault in
    search (rules, is)
