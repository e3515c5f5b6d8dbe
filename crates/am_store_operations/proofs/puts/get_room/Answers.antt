use Rattle.std.proofs.Common.{◌∷◌, ◌++◌, [], take, sym, ap, ◌∙◌, subst}
use Rattle.std.specs.Prelude.{is_some}
use Rattle.std.specs.List.{AllByRecursion}
use Rattle.std.proofs.lemmas.List.{take_more}
use Rattle.am_record.proofs.Lists.{AllByRecursion-at, AllByRecursion-push}
use Rattle.am_index.specs.Entries.{find}
use Rattle.am_index.specs.Rooms.{HasRoom}
use Rattle.am_index.proofs.Rooms.{keep_on}
use Rattle.am_store_operations.specs.Updates.{IsPlaced, HasRoomAtPlace}
use Rattle.am_store_operations.proofs.Updates.{all_keep_place}
use Rattle.am_store_operations.proofs.puts.get_room.Goals as goal

pub loop-at-preserved : goal.loop-at-preserved
loop-at-preserved g c =
    let us = c.args.updates.now in
    let at = c.loop-at.at in
    let u = c.index-updates-at.result in
    let was = c.loop-at.parts in
    let now = c.make_room.new.self in
    let got = c.in_ok-make_room.ensures in
    let before = c.loop-at.invariant in
    let same = got.entries in
    let here : IsPlaced now.entries u = subst (λ l. IsPlaced l u) (sym (same ∙ before.entries))
    (subst (IsPlaced c.args.parts.now.entries) (sym c.index-updates-at.is)
    (AllByRecursion-at (IsPlaced c.args.parts.now.entries) us at u c.requires.placed c.loop-at-test.true)) in
    record {
      entries = same ∙ before.entries;
      runs = got.runs ∙ before.runs;
      rooms = keep_on c.args.parts.now.roomy was.roomy now.roomy was.entries now.entries before.rooms got.rooms
          (λ part key among stands. ap (λ l. is_some (find l part key)) (sym same) ∙ stands);
      done = subst (AllByRecursion (HasRoomAtPlace now.entries now.roomy))
          (ap (λ w. take at us ++ w ∷ []) c.index-updates-at.is ∙ sym (take_more us at u c.loop-at-test.true))
          (AllByRecursion-push (HasRoomAtPlace now.entries now.roomy) (take at us) u
          (all_keep_place was.entries now.entries was.roomy now.roomy got.rooms
          (λ w placed. subst (λ l. IsPlaced l w) (sym same) placed) (take at us) before.done)
          (record {
            placed = here;
            room = subst (HasRoom now.roomy u.0.part u.0.key) c.len.ensures.all got.ok;
          }));
    }
