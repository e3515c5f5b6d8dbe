-- What a store over a B-tree owns in memory.
use denote.RattleType.{RattleType}
use Rattle.am_index_btree.specs.contracts.btree.BTree as tree
use Rattle.am_index_btree.specs.contracts.btree.BTreePartIndex.TheImpl as tree_index
use Rattle.am_store.specs.contracts.store.Store as store

abbrev pub store_row : RattleType
store_row = store.the_row tree.the_row tree_index.ghosts
