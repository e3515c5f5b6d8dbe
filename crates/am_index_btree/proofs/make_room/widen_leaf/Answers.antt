use Rattle.std.proofs.Common.{IsSome, sym, subst}
use Rattle.am_index.specs.Entries.{find}
use Rattle.am_index.specs.Rooms.{HasRoom}
use Rattle.am_index_leaf.specs.LeafCode.{Fits}
use Rattle.am_index_btree.specs.Nodes.{leaf_roomy}
use Rattle.am_index_btree.proofs.ValueRooms.{fits_leaf}
use Rattle.am_index_btree.proofs.WiderRooms.{if_ok_map}
use Rattle.am_index_btree.proofs.make_room.widen_leaf.Goals as goal

pub returns-clause-ok : goal.returns-clause-ok
returns-clause-ok c =
    let new = c.widen-widened.new.self in
    if_ok_map (λ _. Fits new 0 c.args.bytes) (λ _. HasRoom (leaf_roomy new) c.args.part c.args.key c.args.bytes)
    (λ _ fits. fits_leaf new c.args.part c.args.key c.args.bytes c.len-2.ensures.room
    (subst (λ es. IsSome (find es c.args.part c.args.key)) (sym c.widen-widened.ensures.widened.entries)
    c.requires.present) fits.value_fits)
    c.widen-widened.result c.widen-widened.ensures.ok
