use Rattle.std.proofs.Common.{sym, ◌∙◌, subst, arith}
use Rattle.std.specs.Prelude.{IsSome}
use Rattle.am_index.specs.Entries.{find, IsRising}
use Rattle.am_index.proofs.Rooms.{keep_on}
use Rattle.am_index_parts.proofs.StandingEntries.{before_removals}
use Rattle.am_index_parts.proofs.Neighbours.{rising_left, next_found, next_gone}
use Rattle.am_index_parts.proofs.way_home.remove_all.Goals as goal

pub remove_from-gone-requires-clause-present : goal.remove_from-gone-requires-clause-present
remove_from-gone-requires-clause-present g c =
    let xs = c.args.entries.now in let at = c.loop-gone.gone in
    let front = c.requires.stand.0 in let back = c.requires.stand.1 in let is = c.requires.stand.2 in
    let left = c.loop-gone.invariant.left front back is in
    next_found xs at c.index-entries-gone.result c.index-entries-gone.is c.loop-gone-test.true front back
    (g.I.PartIndex.entries c.loop-gone.index) left
    (subst IsRising (sym left) (rising_left at front xs back (subst IsRising is c.requires.rising)))

pub loop-gone-preserved : goal.loop-gone-preserved
loop-gone-preserved g c =
    let xs = c.args.entries.now in let at = c.loop-gone.gone in
    record {
      most = omega (arith, c.remove_from-gone.ensures.most, c.loop-gone-test.true);
      left = λ front back is.
          let left = c.loop-gone.invariant.left front back is in
          c.remove_from-gone.ensures.others ∙ next_gone xs at c.index-entries-gone.result c.index-entries-gone.is
          c.loop-gone-test.true front back (g.I.PartIndex.entries c.loop-gone.index) left
          (subst IsRising (sym left) (rising_left at front xs back (subst IsRising is c.requires.rising)))
          c.remove_from-gone.result c.remove_from-gone.ensures.most;
      rooms = keep_on _ _ _ (g.I.PartIndex.entries c.loop-gone.index)
          (g.I.PartIndex.entries c.remove_from-gone.new.self)
          c.loop-gone.invariant.rooms c.remove_from-gone.ensures.rooms
          (λ part key among stands. before_removals part key (g.I.PartIndex.entries c.loop-gone.index)
          c.index-entries-gone.result.part c.index-entries-gone.result.key c.remove_from-gone.result
          (subst (λ l. IsSome (find l part key)) c.remove_from-gone.ensures.others stands));
    }
