use Rattle.std.proofs.Common.{◌≡◌, ◌+◌, ◌++◌, true, cond, length, refl, sym, ap, ◌∙◌, subst}
use Rattle.std.specs.Prelude.{is_some, nat_lt}
use Rattle.std.specs.List.{AllByRecursion}
use Rattle.std.specs.FinMap.{is_sorted}
use Rattle.std.proofs.lemmas.List.{append_assoc}
use Rattle.am_record.specs.OrderedKey.{key_cmp}
use Rattle.am_index.specs.Entries.{find, IsRising}
use Rattle.am_index.specs.Content.{content}
use Rattle.am_index.specs.Rooms.{KeepRoom}
use Rattle.am_index.specs.Runs.{NothingAbove, with_run}
use Rattle.am_index_parts.specs.Partitions.{AreAllAbsent}
use Rattle.am_law_effect.specs.Operations.{new_records, updates, updated, note_of_run, notes_of_updates}
use Rattle.am_store_operations.specs.Updates.{IsPlaced, HasRoomAtPlace}
use Rattle.am_store_operations.proofs.Updates.{found_placed, run_placed, all_keep_place, stood_updated, new_sorted}
use Rattle.am_store_operations.proofs.Updates.{new_absent}
use Rattle.am_store_operations.proofs.Updates.{made_of_new, keep_through}
use Rattle.am_store_operations.proofs.puts.put_records.Goals as goal

pub get_room-requires-clause-placed : goal.get_room-requires-clause-placed
get_room-requires-clause-placed g c =
    let es = c.args.parts.now.entries in
    subst (AllByRecursion (IsPlaced es))
    (sym (c.as_slice-2.ensures.value ∙ c.in_ok-updates.ensures.updates ∙ ap (λ l. updates l es) c.as_slice.ensures))
    (found_placed es c.runs.ensures.sound.rising c.runs.ensures.sound.one_place c.args.records.now)

pub load_new-requires-clause-sorted : goal.load_new-requires-clause-sorted
load_new-requires-clause-sorted g c =
    let m = content c.args.parts.now.entries in
    subst (λ rs. is_sorted key_cmp rs ≡ true)
    (sym (c.in_ok-updates.ensures.fresh ∙ ap (λ l. new_records l m) c.as_slice.ensures))
    (new_sorted c.args.records.now m c.requires.rising)

pub load_new-requires-clause-dead : goal.load_new-requires-clause-dead
load_new-requires-clause-dead g c =
    let es = c.args.parts.now.entries in
    subst (λ l. AreAllAbsent l c.in_ok-updates.field-0.fresh.items) (sym c.in_ok-get_room.ensures.entries)
    (subst (AreAllAbsent es)
    (sym (c.in_ok-updates.ensures.fresh ∙ ap (λ l. new_records l (content es)) c.as_slice.ensures))
    (new_absent c.args.records.now es))

pub overwrite_all-requires-clause-placed : goal.overwrite_all-requires-clause-placed
overwrite_all-requires-clause-placed g c =
    let got = c.get_room.new.parts in
    let now = c.load_new.new.parts in
    let fresh = c.in_ok-updates.field-0.fresh.items in
    let rise = subst IsRising (sym c.in_ok-get_room.ensures.entries) c.runs.ensures.sound.rising in
    let above = subst (λ n. NothingAbove n got.entries) (sym c.in_ok-get_room.ensures.runs)
    (subst (NothingAbove c.args.parts.now.runs) (sym c.in_ok-get_room.ensures.entries) c.requires.above) in
    subst (AllByRecursion (HasRoomAtPlace now.entries now.roomy))
    (c.as_slice-2.ensures.value ∙ sym c.as_slice-4.ensures.value)
    (all_keep_place got.entries now.entries got.roomy now.roomy c.in_ok-load_new.ensures.rooms
    (λ u placed. subst (λ l. IsPlaced l u) (sym c.in_ok-load_new.ensures.entries)
    (run_placed got.entries got.runs fresh rise above u placed))
    c.as_slice-2.result.now c.in_ok-get_room.ensures.ok)

pub returns-clause-done : goal.returns-clause-done
returns-clause-done g c =
    let es = c.args.parts.now.entries in
    let m = content es in
    let got = c.in_ok-get_room.ensures in
    let loaded = c.in_ok-load_new.ensures in
    let done = c.overwrite_all.ensures in
    let us = c.as_slice-4.ensures.value ∙ c.in_ok-updates.ensures.updates ∙
    ap (λ l. updates l es) c.as_slice.ensures in
    let new = c.in_ok-updates.ensures.fresh ∙ ap (λ l. new_records l m) c.as_slice.ensures in
    record {
      said = refl;
      entries = done.entries ∙ ap (updated c.as_slice-4.result.now) loaded.entries ∙
          (λ i. updated (us i) (with_run (got.runs i + 1) (new i) (got.entries i)));
      runs = done.runs ∙ loaded.runs ∙ (λ i. got.runs i + cond (nat_lt 0 (length (new i))) 1 0) ∙
          ap (λ n. c.args.parts.now.runs + n) (made_of_new c.args.records.now m);
      notes = done.notes ∙ ap (λ ns. notes_of_updates c.as_slice-4.result.now ++ ns) loaded.notes
          ∙ (λ i. notes_of_updates (us i) ++ (note_of_run (got.runs i + 1) (new i) ++ c.in_ok-reserve.ensures.notes i))
          ∙ sym (append_assoc (notes_of_updates (updates c.args.records.now es))
          (note_of_run (c.args.parts.now.runs + 1) (new_records c.args.records.now m)) c.args.log.now.notes);
      marks = done.marks ∙ loaded.marks ∙ c.in_ok-reserve.ensures.marks;
    }

pub returns-clause-rooms : goal.returns-clause-rooms
returns-clause-rooms g c =
    let got = c.get_room.new.parts in
    let now = c.load_new.new.parts in
    let out = c.overwrite_all.new.parts in
    keep_through c.args.parts.now.roomy got.roomy now.roomy out.roomy c.args.parts.now.entries now.entries out.entries
    c.requires.values
    (subst (λ l. KeepRoom c.args.parts.now.roomy got.roomy l) c.in_ok-get_room.ensures.entries
    c.in_ok-get_room.ensures.rooms)
    c.in_ok-load_new.ensures.rooms c.overwrite_all.ensures.rooms
    (λ part key stands. sym (stood_updated c.as_slice-4.result.now now.entries part key) ∙
    ap (λ l. is_some (find l part key)) (sym c.overwrite_all.ensures.entries) ∙ stands)
