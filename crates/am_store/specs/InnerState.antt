-- What the store's fields keep together.
use Rattle.am_law_sound.specs.StoreState.{StoreState}
use Rattle.am_store.specs.declared.inner.Inner.{Inner}
use Rattle.am_store.specs.StoreContent.{actives, state_kept}
use Rattle.am_store.specs.Rooms.{HaveTheirRoom}

abbrev pub inner_state : {I : Type 0} → Inner I → StoreState
inner_state k = state_kept k.most_runs k.parts k.txs k.wishes k.commits

-- its values, and those that its transactions noted, have room
abbrev pub HasRooms : {I : Type 0} → Inner I → Type 0
HasRooms k = HaveTheirRoom k.parts (actives k.txs)
