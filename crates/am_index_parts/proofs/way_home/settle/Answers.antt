use Rattle.std.proofs.Common.{◌≡◌, List, length, false, sym, ap, ◌∙◌, subst}
use Rattle.std.specs.Prelude.{IsSome, is_some}
use Rattle.std.specs.Option.{option_map}
use Rattle.am_record.specs.declared.entry.Entry.{Entry}
use Rattle.am_record.proofs.Outcomes.{on_err, OnErr-from}
use Rattle.am_index.specs.Entries.{slot_of, find, insert_entry, remove_entry}
use Rattle.am_index.proofs.Edits.{entry_at_inserted, insert_back}
use Rattle.am_index.specs.Rooms.{HasRoom}
use Rattle.am_index.proofs.Rooms.{keep_on}
use Rattle.am_index_parts.specs.Catalogs.{IsCatalog}
use Rattle.am_index_parts.proofs.HomeRooms.{needs_where_none}
use Rattle.am_index_parts.proofs.StandingEntries.{before_removal}
use Rattle.am_index_parts.proofs.way_home.settle.Goals as goal

pub remove-requires : goal.remove-requires
remove-requires g c =
    let es = g.I.PartIndex.entries c.args.index.now in
    let home : Entry = record c.args.entry.now { part = 0; is_ghost = false } in
    let added : g.I.PartIndex.entries c.insert.new.self ≡ insert_entry es home = c.in_ok-insert.ensures.ok in
    ap (λ (l : List Entry). is_some (find l 0 c.args.entry.now.key)) added ∙
    ap is_some (ap (option_map slot_of) (entry_at_inserted es home))

pub returns-then-is_err-clause-err : goal.returns-then-is_err-clause-err
returns-then-is_err-clause-err g c =
    let es = g.I.PartIndex.entries c.args.index.now in
    let home : Entry = record c.args.entry.now { part = 0; is_ghost = false } in
    let added : g.I.PartIndex.entries c.insert.new.self ≡ insert_entry es home = c.in_ok-insert.ensures.ok in
    c.remove.ensures.others ∙ ap (λ (l : List Entry). remove_entry l 0 c.args.entry.now.key) added ∙
    insert_back es home

pub returns-then-is_err-clause-catalog : goal.returns-then-is_err-clause-catalog
returns-then-is_err-clause-catalog g c =
    let es = g.I.PartIndex.entries c.args.index.now in
    let home : Entry = record c.args.entry.now { part = 0; is_ghost = false } in
    let added : g.I.PartIndex.entries c.insert.new.self ≡ insert_entry es home = c.in_ok-insert.ensures.ok in
    let back : g.I.PartIndex.entries c.remove.new.self ≡ es =
    c.remove.ensures.others ∙ ap (λ (l : List Entry). remove_entry l 0 c.args.entry.now.key) added ∙
    insert_back es home in
    subst (λ (l : List Entry). IsCatalog l c.add.new.self) (sym back)
    (on_err c.add.result (sym c.is_err.ensures.value ∙ c.if-is_err.true) c.add.ensures.err es c.requires.counted)

pub returns-then-is_err-clause-rooms : goal.returns-then-is_err-clause-rooms
returns-then-is_err-clause-rooms g c =
    let key = c.args.entry.now.key in
    keep_on _ _ _ (g.I.PartIndex.entries c.insert.new.self) (g.I.PartIndex.entries c.remove.new.self)
    c.in_ok-insert.ensures.rooms c.remove.ensures.rooms
    (λ part' key' among stands. before_removal part' key' (g.I.PartIndex.entries c.insert.new.self) 0 key
    (subst (λ (l : List Entry). IsSome (find l part' key')) c.remove.ensures.others stands))

pub returns-in_err-make_room-clause-needs : goal.returns-in_err-make_room-clause-needs
returns-in_err-make_room-clause-needs g c =
    let es = g.I.PartIndex.entries c.args.index.now in
    let x = c.args.entry.now in
    let roomy = g.I.PartIndex.roomy c.args.index.now in
    OnErr-from c.from_residual-in_err-make_room.result
    (needs_where_none es roomy 0 x.key x.value c.requires.room
    (λ (room : HasRoom roomy 0 x.key (length x.value)).
    c.in_err-make_room.ensures.full (subst (HasRoom roomy 0 x.key) (sym c.len.ensures.all) room)))
