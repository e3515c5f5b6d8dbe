use Rattle.std.proofs.Common.{sym, subst}
use Rattle.am_record.proofs.Lists.{AllByRecursion-take}
use Rattle.am_index_parts.specs.MergedRanges.{IsMerged, AreMerged}
use Rattle.am_index_parts.proofs.merged_ranges.MergedRanges.join.Goals as goal

pub returns-then-not-widen : goal.returns-then-not-widen
returns-then-not-widen c = λ es runs are. c.unite.ensures es runs (
  are.0,
  c.widen.ensures.says es runs (
    are.0,
    subst (AreMerged es runs) (sym c.truncate.ensures.items)
        (AllByRecursion-take (IsMerged es runs) 4093 c.args.self.now.list.items are.1),
  ),
)

pub returns-else-not-widen : goal.returns-else-not-widen
returns-else-not-widen c = λ es runs are. c.widen.ensures.says es runs (
  are.0,
  subst (AreMerged es runs) (sym c.truncate.ensures.items)
      (AllByRecursion-take (IsMerged es runs) 4093 c.args.self.now.list.items are.1),
)
