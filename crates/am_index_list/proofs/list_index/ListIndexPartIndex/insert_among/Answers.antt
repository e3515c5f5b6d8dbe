use Rattle.am_index.proofs.Rooms.{all_keep_room}
use Rattle.am_index_list.proofs.list_index.ListIndexPartIndex.insert_among.Goals as goal

pub returns-clause-rooms : goal.returns-clause-rooms
returns-clause-rooms c = all_keep_room _ _
