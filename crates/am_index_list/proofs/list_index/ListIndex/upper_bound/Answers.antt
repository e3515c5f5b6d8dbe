use Rattle.std.proofs.Common.{arith}
use Rattle.am_index.proofs.Searches.{upper_from_place, upper_from_gap}
use Rattle.am_index_list.proofs.list_index.ListIndex.upper_bound.Goals as goal

pub overflow_add-result : goal.overflow_add-result
overflow_add-result c = omega (arith, c.search.ensures.fits, c.in-Ok.ensures.found.in_range)

pub returns-in-Ok-clause-bound : goal.returns-in-Ok-clause-bound
returns-in-Ok-clause-bound c = upper_from_place _ _ _ _ c.in-Ok.ensures.found

pub returns-in-Err-clause-bound : goal.returns-in-Err-clause-bound
returns-in-Err-clause-bound c = upper_from_gap _ _ _ _ c.in-Err.ensures.absent
