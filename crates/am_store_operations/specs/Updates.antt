-- Values that live entries are to get.
use Rattle.std.specs.Prelude.{ℕ, List, length}
use Rattle.am_record.specs.EntryOrder.{Place}
use Rattle.am_record.specs.declared.entry.Entry.{Entry}
use Rattle.am_index.specs.Content.{IsLiveAt}
use Rattle.am_index.specs.Rooms.{HasRoom}
use Rattle.am_law_effect.specs.Operations.{Update}

-- the key is live at the place of the entry, with some value
pub record IsPlaced (es : List Entry) (u : Update) : Type 0 where
  pub value : List ℕ
  pub live : IsLiveAt es u.0.part u.0.key value

-- and the new value has room there
pub record HasRoomAtPlace (es : List Entry) (roomy : List Place) (u : Update) : Type 0 where
  pub placed : IsPlaced es u
  pub room : HasRoom roomy u.0.part u.0.key (length u.1)
