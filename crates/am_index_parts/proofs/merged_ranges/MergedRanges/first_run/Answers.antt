use Rattle.std.proofs.Common.{◌-◌, drop, sym, subst}
use Rattle.am_record.proofs.Lists.{AllByRecursion-take, AllByRecursion-drop}
use Rattle.am_index_parts.specs.MergedRanges.{AreMerged, IsMerged}
use Rattle.am_index_parts.proofs.merged_ranges.MergedRanges.first_run.Goals as goal

pub returns-then-near-newest-clause-none_before : goal.returns-then-near-newest-clause-none_before
returns-then-near-newest-clause-none_before c = λ es runs are.
    c.first_run_by-newest.ensures.none_before es runs
    (AllByRecursion-take (IsMerged es runs) c.min.result c.deref.result.now
    (subst (AreMerged es runs) (sym c.deref.ensures.value) are))

pub returns-else-near-newest-clause-none_before : goal.returns-else-near-newest-clause-none_before
returns-else-near-newest-clause-none_before c = λ es runs are.
    let from = c.saturating_sub.result in
    c.first_run_by-near.ensures.none_before es runs
    (AllByRecursion-take (IsMerged es runs) (c.end_of-end.result - from) (drop from c.deref-2.result.now)
    (AllByRecursion-drop (IsMerged es runs) from c.deref-2.result.now
    (subst (AreMerged es runs) (sym c.deref-2.ensures.value) are)))
