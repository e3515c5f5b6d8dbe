use Rattle.std.proofs.Common.{ℕ, List, drop, nat_lt, take, ap, ◌∙◌, arith}
use Rattle.std.proofs.lemmas.List.Sums.{count_by-le-length}
use Rattle.std.specs.List.{count_by}
use Rattle.am_index.proofs.Searches.{whole_rest}
use Rattle.am_index_btree.proofs.GroupedFronts.{counted, counted_first}
use Rattle.am_index_btree.proofs.separators.count_lower.Goals as goal

pub overflow_add-result : goal.overflow_add-result
overflow_add-result c =
    let fs = c.args.fronts.now in let f : ℕ = c.args.front in let n = c.pass_groups-passed.result in
    let held = c.pass_groups-passed.ensures in
    let in_group = c.count_in_group.ensures ∙
    ap (λ (l : List ℕ). count_by (λ other. nat_lt other f) (take 8 l)) (whole_rest n fs) in
    omega (
      arith,
      counted f n fs held.within held.below,
      counted_first f 8 (drop n fs) held.above,
      in_group,
      count_by-le-length (λ other. nat_lt other f) fs,
    )

pub returns : goal.returns
returns c =
    let fs = c.args.fronts.now in let f : ℕ = c.args.front in let n = c.pass_groups-passed.result in
    let held = c.pass_groups-passed.ensures in
    let in_group = c.count_in_group.ensures ∙
    ap (λ (l : List ℕ). count_by (λ other. nat_lt other f) (take 8 l)) (whole_rest n fs) in
    omega (arith, counted f n fs held.within held.below, counted_first f 8 (drop n fs) held.above, in_group)
