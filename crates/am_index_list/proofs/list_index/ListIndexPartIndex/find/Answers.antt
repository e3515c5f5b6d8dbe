use Rattle.std.proofs.Common.{sym}
use Rattle.am_index.proofs.Searches.{find_found, find_absent}
use Rattle.am_index.proofs.Rooms.{all_have_room}
use Rattle.am_index_list.proofs.list_index.ListIndexPartIndex.find.Goals as goal

pub returns-in-Ok-clause-found : goal.returns-in-Ok-clause-found
returns-in-Ok-clause-found c = sym (find_found _ _ _ _ c.in-Ok.ensures.found c.index-e.result.now
    (rw (← c.self.view_is) c.index-e.ensures))

pub returns-in-Err-clause-found : goal.returns-in-Err-clause-found
returns-in-Err-clause-found c = sym (find_absent _ _ _ _ c.in-Err.ensures.absent)

pub returns-in-Ok-clause-room : goal.returns-in-Ok-clause-room
returns-in-Ok-clause-room c = all_have_room _

pub returns-in-Err-clause-room : goal.returns-in-Err-clause-room
returns-in-Err-clause-room c = all_have_room _
