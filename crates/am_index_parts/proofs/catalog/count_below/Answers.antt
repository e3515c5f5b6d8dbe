use Rattle.std.proofs.Common.{rules, ◌≡◌, true, false, arith}
use Rattle.std.proofs.lemmas.Bool.{ltb-true, ltb-false}
use Rattle.std.specs.List.Sorted.{IsPartitionPoint}
use Rattle.std.proofs.lemmas.List.Sorted.{IsPartitionPoint-from_clause}
use Rattle.am_index.proofs.Searches.{all_take, all_drop}
use Rattle.am_index_parts.specs.declared.catalog.OpenRun.{OpenRun}
use Rattle.am_index_parts.proofs.CatalogCalls.{is_under, partitioned}
use Rattle.am_index_parts.proofs.catalog.count_below.Goals as goal
use Rattle.am_index_parts.proofs.catalog.count_below.Goals.{After-partition_point}

point : (c : After-partition_point) → IsPartitionPoint (λ (r : OpenRun). is_under c.args.part r ≡ true)
    (λ (r : OpenRun). is_under c.args.part r ≡ false) c.args.runs.now c.partition_point.result
point c = IsPartitionPoint-from_clause (is_under c.args.part) _ _ c.partition_point.ensures.partitioned
    (partitioned c.args.part c.args.runs.now c.requires) (λ a r q k. search rules)

pub returns-clause-below : goal.returns-clause-below
returns-clause-below c = all_take _ c.args.runs.now c.partition_point.result c.partition_point.ensures.bound
    (λ k d lt. ltb-true _ _ ((point c).0 k d (omega arith) lt))

pub returns-clause-others : goal.returns-clause-others
returns-clause-others c = all_drop _ c.args.runs.now c.partition_point.result
    (λ k d le lt. ltb-false _ _ ((point c).1 k d le lt))
