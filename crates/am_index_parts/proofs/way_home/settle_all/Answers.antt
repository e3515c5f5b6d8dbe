use Rattle.std.proofs.Common.{length, take, drop, sym, ap, ◌∙◌, subst, length-drop, arith}
use Rattle.std.proofs.Math.Seq.{take-add}
use Rattle.std.specs.Prelude.{IsSome, nat_lt}
use Rattle.am_index.specs.Entries.{find}
use Rattle.am_index.proofs.Rooms.{keep_on}
use Rattle.am_index.proofs.Searches.{whole_rest}
use Rattle.am_index_parts.specs.Partitions.{all_settled}
use Rattle.am_index_parts.specs.GoingHome.{AreHomesOf}
use Rattle.am_index_parts.proofs.SettledEntries.{settled_on, homes_left, homes_or_none}
use Rattle.am_index_parts.proofs.StandingEntries.{with_all_settled}
use Rattle.am_index_parts.proofs.way_home.settle_all.Goals as goal

pub settle-preserved : goal.settle-preserved
settle-preserved g c =
    let es = g.I.PartIndex.entries c.args.index.now in let xs = c.args.entries.now in
    let at = c.settle.count in let before = c.settle.invariant in
    let more = c.settle_first-more in let new = g.I.PartIndex.entries more.new.index in
    let rest = take more.result (drop at xs) in
    let whole = whole_rest at xs in
    record {
      range = omega (arith, more.ensures.most, ap length whole, length-drop at xs, c.settle-test.true);
      settled = more.ensures.settled ∙ ap (λ l. all_settled (take more.result l) (g.I.PartIndex.entries c.settle.index))
          whole ∙
          ap (all_settled rest) before.settled ∙ sym (settled_on (take at xs) rest es) ∙
          ap (λ l. all_settled l es) (sym (take-add at more.result xs));
      catalog = more.ensures.catalog;
      rooms = keep_on _ _ _ (g.I.PartIndex.entries c.settle.index) new before.rooms more.ensures.rooms
          (λ part key among stands. subst (λ l. IsSome (find l part key)) (sym before.settled)
          (with_all_settled part key (take at xs) es (c.requires.room.places part key among)));
    }

pub settle_first-more-requires-clause-homes : goal.settle_first-more-requires-clause-homes
settle_first-more-requires-clause-homes g c =
    let at = c.settle.count in let xs = c.args.entries.now in
    let left = drop at c.entries.result.now in let few = nat_lt c.settle.lone 3 in
    subst (λ es. AreHomesOf es c.homes_from-homes.result.now) (sym (whole_rest at xs))
    (subst (λ hs. AreHomesOf (drop at xs) hs) (sym c.homes_from-homes.ensures)
    (homes_or_none few (drop at xs) left (subst (λ hs. AreHomesOf (drop at xs) (drop at hs)) (sym c.entries.ensures.all)
    (homes_left at xs c.first_homes-all_homes.result c.first_homes-all_homes.ensures))))
