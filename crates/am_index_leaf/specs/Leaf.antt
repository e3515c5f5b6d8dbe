-- What a leaf is seen as, and what holds of it.
use Rattle.std.specs.Prelude.{◌≡◌, ℕ, ◌/◌, ◌^◌, ◌<◌, ◌≤◌, List, [], ◌∷◌, length}
use Rattle.am_record.specs.declared.entry.Entry.{Entry}
use Rattle.am_record.specs.EntryOrder.{Place}
use Rattle.am_index.specs.Entries.{IsRising}
use Rattle.am_index_leaf.specs.declared.leaf.RawLeaf.TheInside.{Inside}
use Rattle.am_index_leaf.specs.Bits.{has_bit}
use Rattle.am_index_leaf.specs.LeafCode.{Seen, NoneLonger}

-- places, values and bits, one by one
abbrev pub entries_of : List Place → List (List ℕ) → ℕ → List Entry
entries_of [] vs m = []
entries_of (p ∷ ps) [] m = []
entries_of (p ∷ ps) (v ∷ vs) m = record { part = p.0; key = p.1; value = v; is_ghost = has_bit m 0 } ∷
    entries_of ps vs (m / 2)

abbrev pub entries : Inside → List Entry
entries a = entries_of a.places.items a.values.items a.ghosts

abbrev pub seen : Inside → Seen
seen a = record { entries = entries a; key_room = a.places.room; value_room = a.values.room }

-- as many places as values stand in the two blocks, a bit is set only at these, each value has room, and the entries
-- rise
pub record IsLeaf (a : Inside) : Type 0 where
  pub places : length a.places.items ≡ a.len
  pub values : length a.values.items ≡ a.len
  pub most : a.len ≤ 32
  pub ghosts : a.ghosts < 2 ^ a.len
  pub fit : NoneLonger a.values.room a.values.items
  pub rising : IsRising (entries a)
