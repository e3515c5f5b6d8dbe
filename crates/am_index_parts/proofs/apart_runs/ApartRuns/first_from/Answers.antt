use Rattle.std.proofs.Common.{rules, ◌≡◌, ◌≤◌, length, true, false, List, sym, subst, arith}
use Rattle.std.specs.List.Sorted.{IsPartitionPoint}
use Rattle.std.proofs.lemmas.List.Sorted.{IsPartitionPoint-from_clause}
use Rattle.am_index.proofs.Searches.{all_take, all_drop}
use Rattle.am_index_parts.specs.declared.apart_runs.ApartRun.{ApartRun}
use Rattle.am_index_parts.specs.ApartRuns.{AreInOrder}
use Rattle.am_index_parts.proofs.ApartRuns.{ends_before, parted, before_it, not_before}
use Rattle.am_index_parts.proofs.apart_runs.ApartRuns.first_from.Goals as goal
use Rattle.am_index_parts.proofs.apart_runs.ApartRuns.first_from.Goals.{After-partition_point}

point : (c : After-partition_point) → IsPartitionPoint (λ (a : ApartRun). ends_before c.args.key a ≡ true)
    (λ (a : ApartRun). ends_before c.args.key a ≡ false) c.args.self.now.list.items c.partition_point.result
point c = subst (λ (l : List ApartRun). IsPartitionPoint (λ (a : ApartRun). ends_before c.args.key a ≡ true)
    (λ (a : ApartRun). ends_before c.args.key a ≡ false) l c.partition_point.result) c.deref.ensures.value
    (IsPartitionPoint-from_clause (ends_before c.args.key) _ _ c.partition_point.ensures.partitioned
    (parted c.args.key c.deref.result.now (subst AreInOrder (sym c.deref.ensures.value) c.requires))
    (λ a r q k. search rules))

within_all : (c : After-partition_point) → c.partition_point.result ≤ length c.args.self.now.list.items
within_all c = subst (λ (l : List ApartRun). c.partition_point.result ≤ length l) c.deref.ensures.value
    c.partition_point.ensures.bound

pub returns-clause-before : goal.returns-clause-before
returns-clause-before c = all_take _ c.args.self.now.list.items c.partition_point.result (within_all c)
    (λ k d lt. before_it _ _ ((point c).0 k d (omega (arith, lt, within_all c)) lt))

pub returns-clause-from : goal.returns-clause-from
returns-clause-from c = all_drop _ c.args.self.now.list.items c.partition_point.result
    (λ k d le lt. not_before _ _ ((point c).1 k d le lt))
