use Rattle.std.proofs.Common.{◌<◌, Some, ap, ◌∙◌, sym, arith, length, get_or}
use Rattle.std.specs.Prelude.{slice_get}
use Rattle.am_store_runs.specs.RecordPlaces.{records_at}
use Rattle.am_store_runs.proofs.Orders.{next_run}
use Rattle.am_store_runs.proofs.cut.Cut.run.Goals as goal

pub returns-clause-run : goal.returns-clause-run
returns-clause-run g c =
    let rs = g.S.RecordSource.records c.self.inside.source.now in
    let orders = c.self.inside.orders.items in
    let passed = c.self.inside.passed in
    let order = c.in_ok-order.order.now in
    let within : passed < length orders = omega (
      arith,
      c.in_ok-order.ensures.lookup.3.0,
      ap (λ l. length l) c.deref.ensures.value,
    ) in
    ap Some (c.new.ensures ∙ ap (records_at rs) c.deref-2.ensures.value)
    ∙ sym (next_run rs orders passed order within
    (c.in_ok-order.ensures.lookup.1 ∙ ap (λ l. get_or l passed order) c.deref.ensures.value))
    ∙ ap (λ l. slice_get l 0) c.self.view_is
