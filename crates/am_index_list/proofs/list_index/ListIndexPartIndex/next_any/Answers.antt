use Rattle.std.proofs.Common.{◌∙◌}
use Rattle.am_index.proofs.Searches.{next_any_at}
use Rattle.am_index_list.proofs.list_index.ListIndexPartIndex.next_any.Goals as goal

pub returns-clause-found : goal.returns-clause-found
returns-clause-found c = c.get.ensures ∙ next_any_at _ _ _ _ c.lower_bound.ensures.bound
