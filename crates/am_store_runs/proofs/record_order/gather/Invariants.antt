use Rattle.std.proofs.Common.{◌≡◌, take}
use Rattle.am_store_runs.specs.RecordPlaces.{records_at}
use Rattle.am_store_runs.proofs.record_order.gather.Given as goal

abbrev pub invariant-loop-spot : goal.invariant-loop-spot
invariant-loop-spot g l = l.gathered.items ≡ records_at (g.S.RecordSource.records l.source) (take l.spot-index l.spots)
