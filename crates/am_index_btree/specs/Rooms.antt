-- Which room for values is in a subtree, and which an edit leaves there.
use Rattle.std.specs.Prelude.{◌≡◌}
use Rattle.am_index.specs.Rooms.{HaveRoom, KeepRoom}
use Rattle.am_index_btree.specs.Shape.{Shape}

-- each value has the room that it takes, and there is room at places of entries alone
abbrev pub IsRoomed : Shape → Type 0
IsRoomed s = HaveRoom s.entries s.roomy

-- after an edit each place that still has an entry has the room that it had, and each value has what it takes
abbrev pub KeepsRoom : Shape → Shape → Type 0
KeepsRoom old new = KeepRoom old.roomy new.roomy new.entries

-- the same entries as before, with no less room
pub record IsWidened (old new : Shape) : Type 0 where
  pub depth : new.depth ≡ old.depth
  pub entries : new.entries ≡ old.entries
  pub room : KeepsRoom old new
