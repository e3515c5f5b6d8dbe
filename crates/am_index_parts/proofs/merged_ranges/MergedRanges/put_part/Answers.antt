use Rattle.std.proofs.Common.{Option, subst}
use Rattle.std.specs.List.{cons_option}
use Rattle.am_index_parts.specs.declared.merged_ranges.MergedRange.{MergedRange}
use Rattle.am_index_parts.specs.MergedRanges.{AreMerged}
use Rattle.am_index_parts.proofs.merged_ranges.MergedRanges.put_part.Goals as goal

pub returns-in-Some : goal.returns-in-Some
returns-in-Some c = λ es runs are. c.put.ensures es runs
    (subst (λ (o : Option MergedRange). AreMerged es runs (cons_option o c.args.self.now.list.items)) c.in-Some.is are)
