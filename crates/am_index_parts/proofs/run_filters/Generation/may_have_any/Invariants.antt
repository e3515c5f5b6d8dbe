use Rattle.std.proofs.Common.{◌≡◌, take}
use Rattle.std.specs.List.{list_any}
use Rattle.am_index_filter.specs.Covers.{is_marked}
use Rattle.am_index_parts.proofs.run_filters.Generation.may_have_any.Given as goal

abbrev pub invariant-loop-number : goal.invariant-loop-number
invariant-loop-number l = l.may_have_any ≡ list_any (λ n. is_marked l.self.all n) (take l.number-index l.numbers)
