use Rattle.std.proofs.Common.{◌+◌, drop, length, false, sym, ap, ◌∙◌, subst, arith}
use Rattle.std.specs.Prelude.{is_some}
use Rattle.std.specs.List.{AllByRecursion}
use Rattle.am_index.specs.Entries.{find}
use Rattle.am_index.proofs.Rooms.{keep_on}
use Rattle.am_store_operations.specs.Updates.{IsPlaced, HasRoomAtPlace}
use Rattle.am_store_operations.proofs.Ghosts.{stood_set}
use Rattle.am_store_operations.proofs.Updates.{whole, updated_on, notes_on, set_placed, all_keep_place}
use Rattle.am_store_operations.proofs.puts.overwrite_all.Goals as goal

pub overwrite-requires-clause-alone : goal.overwrite-requires-clause-alone
overwrite-requires-clause-alone g c =
    let u = c.index-updates-at.result in
    let left = subst (AllByRecursion (HasRoomAtPlace c.loop-at.parts.entries c.loop-at.parts.roomy))
    (whole c.args.updates.now c.loop-at.at u c.loop-at-test.true c.index-updates-at.is)
    c.loop-at.invariant.placed in
    record {
      only = λ part value live. c.loop-at.invariant.one_place.one u.0.key part u.0.part value left.0.placed.value
          live left.0.placed.live;
    }

pub loop-at-preserved : goal.loop-at-preserved
loop-at-preserved g c =
    let us = c.args.updates.now in
    let at = c.loop-at.at in
    let u = c.index-updates-at.result in
    let was = c.loop-at.parts in
    let now = c.overwrite.new.parts in
    let done = c.overwrite.ensures in
    let before = c.loop-at.invariant in
    let all = whole us at u c.loop-at-test.true c.index-updates-at.is in
    let left = subst (AllByRecursion (HasRoomAtPlace was.entries was.roomy)) all before.placed in
    record {
      entries = updated_on us at u c.loop-at-test.true c.index-updates-at.is was.entries now.entries done.entries ∙
          before.entries;
      notes = notes_on us at u c.loop-at-test.true c.index-updates-at.is c.loop-at.log.notes
          c.overwrite.new.log.notes done.notes ∙ before.notes;
      runs = done.runs ∙ before.runs;
      marks = done.marks ∙ before.marks;
      room = omega (arith, before.room, done.room, ap length all);
      placed = all_keep_place was.entries now.entries was.roomy now.roomy done.rooms
          (λ w placed. subst (λ l. IsPlaced l w) (sym done.entries)
          (set_placed was.entries u.0.part u.0.key u.1 w placed)) (drop (at + 1) us) left.1;
      one_place = done.one_place;
      rooms = keep_on c.args.parts.now.roomy was.roomy now.roomy was.entries now.entries before.rooms done.rooms
          (λ part key among stands. sym (stood_set was.entries u.0.part u.0.key u.1 false part key) ∙
          ap (λ l. is_some (find l part key)) (sym done.entries) ∙ stands);
    }
