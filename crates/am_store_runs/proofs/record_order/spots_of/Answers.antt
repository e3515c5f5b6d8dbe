use Rattle.std.proofs.Common.{◌<◌, ◌+◌, List, ◌≡◌, sym, ap, ◌∙◌, subst, arith}
use Rattle.std.specs.Prelude.{length}
use Rattle.am_record.specs.KeyFront.{key_front}
use Rattle.am_store_runs.specs.RecordPlaces.{IsSpot, AreSpots, records_at, piece}
use Rattle.am_store_runs.specs.declared.record_order.Spot.{Spot}
use Rattle.am_store_runs.proofs.Spots.{spots_more, named_more}
use Rattle.am_store_runs.proofs.record_order.spots_of.Goals as goal

pub loop-place-preserved : goal.loop-place-preserved
loop-place-preserved g c =
    let rs = g.S.RecordSource.records c.args.source.now in
    let s : Spot = record { front = c.front.result; place = c.loop-place.place } in
    let within : s.place < length rs = omega (arith, c.loop-place-test.true, c.requires.within) in
    let is : IsSpot rs s = record { within = within; front = c.front.ensures ∙ ap key_front c.key.ensures } in
    record {
      spots = subst (AreSpots rs) (sym c.in_ok-push.ensures.items)
          (spots_more rs c.loop-place.spots.items s c.loop-place.invariant.spots is);
      all = subst (λ (l : List Spot). records_at rs l ≡ piece rs c.args.from (s.place + 1))
          (sym c.in_ok-push.ensures.items)
          (named_more rs c.loop-place.spots.items s c.args.from c.loop-place.invariant.order within
          c.loop-place.invariant.all);
      order = omega (arith, c.loop-place.invariant.order);
    }
