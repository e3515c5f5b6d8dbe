use Rattle.am_index.proofs.Searches.{lower_from_place, lower_from_gap}
use Rattle.am_index_list.proofs.list_index.ListIndex.lower_bound.Goals as goal

pub returns-in-Ok-clause-bound : goal.returns-in-Ok-clause-bound
returns-in-Ok-clause-bound c = lower_from_place _ _ _ _ c.in-Ok.ensures.found

pub returns-in-Err-clause-bound : goal.returns-in-Err-clause-bound
returns-in-Err-clause-bound c = lower_from_gap _ _ _ _ c.in-Err.ensures.absent
