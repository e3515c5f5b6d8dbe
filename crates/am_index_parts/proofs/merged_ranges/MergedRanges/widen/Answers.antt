use Rattle.std.proofs.Common.{List, sym, subst, arith}
use Rattle.am_index_parts.specs.declared.merged_ranges.MergedRange.{MergedRange}
use Rattle.am_index_parts.specs.MergedRanges.{IsMerged}
use Rattle.am_index_parts.proofs.MergedKnowledge.{at}
use Rattle.am_index_parts.proofs.ReplacedRanges.{placed}
use Rattle.am_index_parts.proofs.merged_ranges.MergedRanges.widen.Goals as goal

pub returns-clause-says : goal.returns-clause-says
returns-clause-says c = λ es runs are.
    let ms : List MergedRange = c.args.self.now.list.items in
    placed (IsMerged es runs) ms c.args.at c.in-Some.both (c.in-Some.ensures es runs (
      are.0,
      (
        subst (IsMerged es runs) (sym c.index-2.ensures) (at (IsMerged es runs) ms c.args.at c.index-2.result.now
            (omega (arith, c.if-at-len.false, c.len.ensures)) are.1),
        tt,
      ),
    )).0 are.1
