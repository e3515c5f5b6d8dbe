use Rattle.std.proofs.Common.{◌≡◌, take}
use Rattle.am_store_runs.specs.RecordPlaces.{keyed_by}
use Rattle.am_store_runs.proofs.record_order.keyed_in_order.Given as goal

abbrev pub invariant-loop-spot : goal.invariant-loop-spot
invariant-loop-spot g l = l.keyed.items ≡ keyed_by (g.S.RecordSource.records l.source) (take l.spot-index l.spots)
