-- Which children of a node have ghosts.
use Rattle.std.specs.Prelude.{ℕ, ◌+◌, ◌*◌, List, [], ◌∷◌}
use Rattle.am_index_leaf.specs.Bits.{bit}
use Rattle.am_index_leaf.specs.Ghosts.{has_ghost}
use Rattle.am_index_btree.specs.Shape.{Shape}

-- a word with a bit for each of the subtrees, the lowest for the first: whether one of its entries is a ghost
abbrev pub marks_of : List Shape → ℕ
marks_of [] = 0
marks_of (k ∷ ks) = bit (has_ghost k.entries) + 2 * marks_of ks
