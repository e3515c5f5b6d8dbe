use Rattle.std.proofs.Common.{◌∙◌}
use Rattle.am_index.proofs.Searches.{next_from_at}
use Rattle.am_index.proofs.Rooms.{all_have_room}
use Rattle.am_index_list.proofs.list_index.ListIndexPartIndex.next_from.Goals as goal

pub returns-clause-found : goal.returns-clause-found
returns-clause-found c = c.of_part.ensures ∙ next_from_at _ _ _ _ c.lower_bound.ensures.bound
    c.lower_bound.ensures.rising

pub returns-clause-room : goal.returns-clause-room
returns-clause-room c = all_have_room _
