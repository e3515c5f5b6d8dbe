use Rattle.std.proofs.Common.{rules, List, ◌≡◌, ap, ◌∙◌, subst, arith}
use Rattle.std.specs.List.Sorted.{IsPermutation}
use Rattle.std.proofs.lemmas.List.{take_all}
use Rattle.std.proofs.lemmas.List.Sorted.{answers_always}
use Rattle.am_record.specs.OrderedKey.{OrderedKey}
use Rattle.am_store_runs.specs.RecordPlaces.{keyed_by}
use Rattle.am_store_runs.specs.declared.record_order.Spot.{Spot}
use Rattle.am_store_runs.proofs.record_order.keyed_in_order.Goals as goal

pub returns : goal.returns
returns g c =
    let rs = g.S.RecordSource.records c.args.source.now in
    let spots = c.args.spots.now in
    let all : c.loop-spot.keyed.items ≡ keyed_by rs spots = c.loop-spot.invariant ∙
    ap (keyed_by rs) (take_all c.loop-spot.spot-index spots (omega (arith, c.loop-spot-test.false))) in
    record {
      same = subst (λ (l : List (OrderedKey × Spot)). IsPermutation l c.sort_unstable_by_key.new.self.items) all
          c.sort_unstable_by_key.ensures.permutation;
      sorted = c.sort_unstable_by_key.ensures.sorted (λ (p : OrderedKey × Spot). p.0)
          (answers_always _ _ _ (λ f a r g h. search rules));
    }
