-- What stands under keys: a value, or the place of a record that is deleted.
use Rattle.std.specs.Prelude.{◌≢◌, ℕ, List, [], ◌∷◌, Option, None, Some}
use Rattle.std.specs.FinMap.{FinMap, get, insert, remove, entries, from_entries}
use Rattle.am_record.specs.OrderedKey.{OrderedKey, key_cmp}
use Rattle.am_record.specs.Plain.{PlainMap, Records}

-- a value, or none where the record is deleted
abbrev pub Cell : Type 0
Cell = Option (List ℕ)

abbrev pub Cells : Type 0
Cells = FinMap key_cmp Cell

-- the records of entries with values, those of deleted ones left out
abbrev pub record_before : OrderedKey → Cell → Records → Records
record_before key None records = records
record_before key (Some value) records = (key, value) ∷ records

abbrev pub records_of_cells : List (OrderedKey × Cell) → Records
records_of_cells [] = []
records_of_cells (e ∷ es) = record_before e.0 e.1 (records_of_cells es)

-- the plain map of the slots
unfoldable pub live : Cells → PlainMap
live slots = from_entries (records_of_cells (entries slots))

-- the map where this stands under the key, or nothing
abbrev pub with_cell : {X : Type 0} → FinMap key_cmp X → OrderedKey → Option X → FinMap key_cmp X
with_cell m key None = remove m key
with_cell m key (Some x) = insert m key x

-- under the key stands a record or nothing, and not the place of a deleted record
abbrev pub IsNoPlace : Cells → OrderedKey → Type 0
IsNoPlace cells key = get cells key ≢ Some None
