use Rattle.std.proofs.Common.{ap, ◌∙◌}
use mathlib.Core.Bool.{false≢true}
use Rattle.am_index.specs.Entries.{remove_entry}
use Rattle.am_index.proofs.Searches.{entry_at_found, find_absent, remove_found, rising_remove_found}
use Rattle.am_index.proofs.Rooms.{all_keep_room}
use Rattle.am_index_list.proofs.list_index.ListIndexPartIndex.remove.Goals as goal

pub unreachable-requires : goal.unreachable-requires
unreachable-requires c = false≢true (rw (find_absent _ _ _ _ c.in_default.ensures.absent) at c.requires)

pub invariant_of-self : goal.invariant_of-self
invariant_of-self c = rw c.remove.ensures.items (rising_remove_found c.self.inside.items.items c.args.part c.args.key
    c.in-Ok.at c.self.invariant (rw c.self.view_is c.in-Ok.ensures.found))

pub returns-clause-entry : goal.returns-clause-entry
returns-clause-entry c = entry_at_found _ _ _ _ c.in-Ok.ensures.found c.remove.result
    (rw (← c.self.view_is) c.remove.ensures.value)

pub returns-clause-others : goal.returns-clause-others
returns-clause-others c = c.remove.ensures.items ∙ remove_found c.self.inside.items.items c.args.part c.args.key
    c.in-Ok.at (rw c.self.view_is c.in-Ok.ensures.found) ∙ ap (λ es. remove_entry es c.args.part c.args.key)
    c.self.view_is

pub returns-clause-rooms : goal.returns-clause-rooms
returns-clause-rooms c = all_keep_room _ _
