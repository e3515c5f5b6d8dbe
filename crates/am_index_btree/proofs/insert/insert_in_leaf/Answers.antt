use Rattle.am_index_btree.specs.InsertResults.{Grows}
use Rattle.am_index_btree.specs.Nodes.{leaf_shape}
use Rattle.am_index_btree.proofs.WiderRooms.{grows_widened, if_ok_map}
use Rattle.am_index_btree.proofs.insert.insert_in_leaf.Goals as goal

pub returns-clause-ok : goal.returns-clause-ok
returns-clause-ok c =
    let old = c.args.leaf.now in let mid = c.widen-widened.new.self in let new = c.insert_fitting.new.leaf in
    if_ok_map (Grows (leaf_shape mid) (leaf_shape new) c.args.entry.now c.args.wanted)
    (Grows (leaf_shape old) (leaf_shape new) c.args.entry.now c.args.wanted)
    (grows_widened old mid c.widen-widened.ensures.widened (leaf_shape new) c.args.entry.now c.args.wanted)
    c.insert_fitting.result c.insert_fitting.ensures.ok
