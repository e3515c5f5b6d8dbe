use Rattle.std.proofs.Common.{◌≡◌, ◌++◌, take}
use Rattle.am_store_runs.specs.Cuts.{keys_of}
use Rattle.am_store_runs.specs.Fronts.{with_fronts}
use Rattle.am_store_runs.specs.RecordPlaces.{records_at}
use Rattle.am_store_runs.proofs.fronts.add_keys_with.Given as goal

abbrev pub invariant-loop-spot : goal.invariant-loop-spot
invariant-loop-spot g l = l.keys.items ≡ l.initial.keys.items ++
    with_fronts l.fronts (keys_of (records_at (g.S.RecordSource.records l.source) (take l.spot-index l.order)))
