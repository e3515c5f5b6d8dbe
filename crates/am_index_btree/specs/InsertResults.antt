-- What an insert below a node leaves.
use Rattle.std.specs.Prelude.{◌≡◌, ℕ, ◌<◌, ◌≤◌, List, ◌++◌, length, Option, Some, None, IfSome, vec_len}
use Rattle.am_record.specs.declared.entry.Entry.{Entry}
use Rattle.am_index.specs.Entries.{insert_entry}
use Rattle.am_index.specs.Places.{AllBelow, NoneBelow}
use Rattle.am_index_btree.specs.declared.insert.Split.{Split}
use Rattle.am_index_btree.specs.Separators.{separator_place}
use Rattle.am_index.specs.Rooms.{KeepRoom}
use Rattle.am_index_btree.specs.Shape.{Shape}
use Rattle.am_index_btree.specs.Rooms.{IsRoomed, KeepsRoom}

-- the node and its new right sibling have the entries between them, parted by the sibling's separator; the sibling
-- isn't empty, and the node keeps half of a full one at least
pub record HasSplit (level : ℕ) (all : List Entry) (new : Shape) (s : Split) : Type 0 where
  pub depth : new.depth ≡ level
  pub right_depth : s.right.depth ≡ level
  pub entries : new.entries ++ s.right.entries ≡ all
  pub below : AllBelow (separator_place s.separator) new.entries
  pub others : NoneBelow (separator_place s.separator) s.right.entries
  pub left_some : 0 < length new.entries
  pub left_half : 16 ≤ length new.entries
  pub right_some : 0 < length s.right.entries

-- the node of that depth has the entries now, alone or with a new right sibling
abbrev pub NowHolds : ℕ → List Entry → Shape → Option Split → Type 0
NowHolds depth all new None = (new.depth ≡ depth) × (new.entries ≡ all)
NowHolds depth all new (Some s) = HasSplit depth all new s

-- each place has the room that it had, in the node or in its new right sibling, and each value has what it takes
pub record RoomIsSplit (old new right : Shape) : Type 0 where
  pub kept : KeepRoom old.roomy (new.roomy ++ right.roomy) (new.entries ++ right.entries)
  pub roomed : IsRoomed new
  pub right_roomed : IsRoomed right

-- the node has the room that it had, alone or with a new right sibling
abbrev pub NowRoomed : Shape → Shape → Option Split → Type 0
NowRoomed old new None = KeepsRoom old new
NowRoomed old new (Some s) = RoomIsSplit old new s.right

-- an insert below a node: where it is split, as many spare nodes as were wanted come up with the sibling
abbrev pub Grows : Shape → Shape → Entry → ℕ → Option Split → Type 0
Grows old new e wanted r = NowHolds old.depth (insert_entry old.entries e) new r ×
    (IfSome r (λ s. vec_len s.spares ≡ wanted) × NowRoomed old new r)
