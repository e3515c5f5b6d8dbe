use Rattle.std.proofs.Common.{◌∙◌, refl}
use Rattle.am_index.proofs.Searches.{find_present, insert_gap, rising_insert_gap}
use Rattle.am_index.proofs.Rooms.{all_keep_room}
use Rattle.am_index_list.proofs.list_index.ListIndexPartIndex.insert.Goals as goal

pub unreachable-requires : goal.unreachable-requires
unreachable-requires c = find_present _ _ _ _ c.in_default.ensures.found c.requires

pub invariant_of-self-2 : goal.invariant_of-self-2
invariant_of-self-2 c = rw c.in_ok-insert.ensures.items
    (rising_insert_gap _ _ _ (rw c.self.view_is c.in-Err.ensures.absent) c.self.invariant)

pub returns-clause-ok : goal.returns-clause-ok
returns-clause-ok c = c.in_ok-insert.ensures.items ∙ insert_gap _ _ _ (rw c.self.view_is c.in-Err.ensures.absent) ∙
    rw c.self.view_is refl

pub returns-in_err-insert-clause-rooms : goal.returns-in_err-insert-clause-rooms
returns-in_err-insert-clause-rooms c = all_keep_room _ _

pub returns-clause-rooms : goal.returns-clause-rooms
returns-clause-rooms c = all_keep_room _ _
