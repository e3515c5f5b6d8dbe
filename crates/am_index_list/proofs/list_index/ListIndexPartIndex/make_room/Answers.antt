use Rattle.am_index.proofs.Rooms.{all_has_room, all_keep_room}
use Rattle.am_index_list.proofs.list_index.ListIndexPartIndex.make_room.Goals as goal

pub returns-clause-ok : goal.returns-clause-ok
returns-clause-ok c = all_has_room _ _ _ _ c.requires.present

pub returns-clause-rooms : goal.returns-clause-rooms
returns-clause-rooms c = all_keep_room _ _
