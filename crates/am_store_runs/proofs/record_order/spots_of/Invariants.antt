use Rattle.std.proofs.Common.{◌≡◌, ◌≤◌}
use Rattle.am_store_runs.specs.RecordPlaces.{AreSpots, records_at, piece}
use Rattle.am_store_runs.proofs.record_order.spots_of.Given as goal

abbrev pub invariant-loop-place : goal.invariant-loop-place
invariant-loop-place g l = record {
  spots : AreSpots (g.S.RecordSource.records l.source) l.spots.items;
  all : records_at (g.S.RecordSource.records l.source) l.spots.items ≡ piece (g.S.RecordSource.records l.source) l.from
      l.place;
  order : l.from ≤ l.place;
}
