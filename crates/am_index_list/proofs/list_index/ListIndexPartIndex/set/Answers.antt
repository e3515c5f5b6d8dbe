use Rattle.std.proofs.Common.{get_or, Option, sym, ap, ◌∙◌}
use Rattle.std.specs.Prelude.{is_some}
use Rattle.am_index.specs.Content.{live_value}
use mathlib.Core.Bool.{false≢true}
use Rattle.am_index.specs.Entries.{Slot, set_entry}
use Rattle.am_index.proofs.Content.{slot_live}
use Rattle.am_index.proofs.Searches.{find_absent, find_found, set_found, rising_set_found}
use Rattle.am_index.proofs.Rooms.{all_keep_room}
use Rattle.am_index_list.proofs.list_index.ListIndexPartIndex.set.Goals as goal

pub unreachable-requires : goal.unreachable-requires
unreachable-requires c = false≢true (rw (find_absent _ _ _ _ c.in_default.ensures.absent) at c.requires.present)

pub invariant_of-self : goal.invariant_of-self
invariant_of-self c = rising_set_found c.self.inside.items.items c.args.part c.args.key c.in-Ok.at c.self.invariant
    (rw c.self.view_is c.in-Ok.ensures.found) _ c.index_mut-e.ensures.value _ _

pub returns-clause-was_live : goal.returns-clause-was_live
returns-clause-was_live c =
    let e = c.index.result.now in
    sym (slot_live e) ∙ ap (λ (o : Option Slot). is_some (live_value o))
    (sym (find_found c.args.self.now c.args.part c.args.key c.in-Ok.at c.in-Ok.ensures.found e
    (c.index.ensures ∙ ap (λ es. get_or es c.in-Ok.at e) c.self.view_is)))

pub returns-clause-set : goal.returns-clause-set
returns-clause-set c = set_found c.self.inside.items.items c.args.part c.args.key c.in-Ok.at
    (rw c.self.view_is c.in-Ok.ensures.found) _ c.index_mut-e.ensures.value _ _ ∙
    ap (λ es. set_entry es c.args.part c.args.key c.args.value c.args.is_ghost) c.self.view_is

pub returns-clause-rooms : goal.returns-clause-rooms
returns-clause-rooms c = all_keep_room _ _
