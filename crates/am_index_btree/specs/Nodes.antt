-- What a node is seen as, and what holds of it.
use Rattle.std.specs.Prelude.{◌≡◌, ℕ, ◌+◌, ◌<◌, ◌≤◌, List, [], ◌∷◌, ◌++◌, length, map, nat_lt, if◌then◌else◌}
use Rattle.std.specs.List.{AllByRecursion}
use Rattle.std.specs.Vec.{vec_capacity}
use denote.Param.Weighed.{most}
use Rattle.am_record.specs.declared.entry.Entry.{Entry}
use Rattle.am_record.specs.EntryOrder.{Place, place_of}
use Rattle.am_record.specs.Limits.{max_value_bytes}
use Rattle.am_index.specs.Entries.{IsRising}
use Rattle.am_index.specs.Places.{AllBelow, NoneBelow}
use Rattle.am_index_leaf.specs.LeafCode.{Seen, ValuesHaveRoom}
use Rattle.am_index_btree.specs.Shape.{Shape}
use Rattle.am_index_btree.specs.Ghosts.{marks_of}
use Rattle.am_index_btree.specs.Rooms.{IsRoomed}
use Rattle.am_index_btree.specs.Separators.{separator_place}
use Rattle.am_index_btree.specs.declared.separator.Separator.{Separator}
use Rattle.am_index_btree.specs.declared.node.Node.{Node}
use Rattle.am_index_btree.specs.declared.node.Node.TheVariants.{Leaf, Inner}

-- the entries of subtrees, one after another
abbrev pub all_entries : List Shape → List Entry
all_entries [] = []
all_entries (k ∷ ks) = k.entries ++ all_entries ks

-- and the places of theirs that have room for any value
abbrev pub all_roomy : List Shape → List Place
all_roomy [] = []
all_roomy (k ∷ ks) = k.roomy ++ all_roomy ks

abbrev pub depth_of : List Shape → ℕ
depth_of ks = most (λ (k : Shape). k.depth + 1) ks

-- all places of a leaf have room for any value, or none has
abbrev pub leaf_roomy : Seen → List Place
leaf_roomy l = if nat_lt l.value_room max_value_bytes then [] else map (λ (e : Entry). place_of e) l.entries

abbrev pub leaf_shape : Seen → Shape
leaf_shape l = record { depth = 0; entries = l.entries; roomy = leaf_roomy l }

abbrev pub inner_shape : List Shape → Shape
inner_shape ks = record { depth = depth_of ks; entries = all_entries ks; roomy = all_roomy ks }

abbrev pub shape_of : Node → Shape
shape_of (Leaf l) = leaf_shape l
shape_of (Inner separators children marks) = inner_shape children.items

-- no entry of a child is below its separator, and all are below the separators of later children
abbrev pub AreParted : List Separator → List Shape → Type 0
AreParted [] [] = Unit {0}
AreParted [] (k ∷ ks) = length (k ∷ ks) ≡ 0
AreParted (l ∷ ls) [] = length (l ∷ ls) ≡ 0
AreParted (l ∷ ls) (k ∷ ks) = NoneBelow (separator_place l) k.entries ×
    AllByRecursion (λ m. AllBelow (separator_place m) k.entries) ls × AreParted ls ks

-- children of a node of that depth: all of one depth, none empty, parted by their separators, each value with its room
pub record AreFilledChildren (depth : ℕ) (separators : List Separator) (children : List Shape) : Type 0 where
  pub level : AllByRecursion (λ (k : Shape). k.depth + 1 ≡ depth) children
  pub filled : AllByRecursion (λ (k : Shape). 0 < length k.entries) children
  pub parted : AreParted separators children
  pub roomed : AllByRecursion (λ (k : Shape). IsRoomed k) children
  pub rising : IsRising (all_entries children)

-- the same, but where there is one child alone, it may be empty
pub record AreChildren (depth : ℕ) (separators : List Separator) (children : List Shape) : Type 0 where
  pub level : AllByRecursion (λ (k : Shape). k.depth + 1 ≡ depth) children
  pub filled : 1 < length children → AllByRecursion (λ (k : Shape). 0 < length k.entries) children
  pub parted : AreParted separators children
  pub roomed : AllByRecursion (λ (k : Shape). IsRoomed k) children
  pub rising : IsRising (all_entries children)

-- an inner node; room for 32 was got once
pub record IsInner (separators : List Separator) (kids : List Shape) (room_kids : ℕ) : Type 0 where
  pub some : 0 < length kids
  pub most : length kids ≤ 32
  pub room : 32 ≤ room_kids
  pub children : AreChildren (depth_of kids) separators kids

abbrev pub IsTree : Node → Type 0
IsTree (Leaf l) = (length l.entries ≤ 32) × (IsRising l.entries × ValuesHaveRoom l)
IsTree (Inner separators children marks) = IsInner separators children.items (vec_capacity children) ×
    (marks ≡ marks_of children.items)
