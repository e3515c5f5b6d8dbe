-- Room for values: a short one has it at every place, a longer one where it was got.
use Rattle.std.specs.Prelude.{◌≡◌, ◌⊎◌, ◌≤◌, ℕ, List, length, Bool, true, ◌&&◌, nat_lt, Option, Some, None, IsSome}
use Rattle.std.specs.List.{list_any}
use Rattle.std.specs.Ordering.{is_eq}
use Rattle.am_record.specs.OrderedKey.{OrderedKey}
use Rattle.am_record.specs.EntryOrder.{Place, place_cmp}
use Rattle.am_record.specs.declared.entry.Entry.{Entry}
use Rattle.am_index.specs.Entries.{Slot, find}

-- whether the place is among them
abbrev pub is_among : List Place → ℕ → OrderedKey → Bool
is_among places part key = list_any (λ (p : Place). is_eq (place_cmp p (part, key))) places

-- a value of so many bytes has room at the place: it is short, or the place is one for which room was got
abbrev pub HasRoom : List Place → ℕ → OrderedKey → ℕ → Type 0
HasRoom roomy part key bytes = (bytes ≤ 16) ⊎ (is_among roomy part key ≡ true)

-- each value has the room that it takes, and room was got for places of entries alone
pub record HaveRoom (es : List Entry) (roomy : List Place) : Type 0 where
  pub values : (part : ℕ) (key : OrderedKey) (slot : Slot) → find es part key ≡ Some slot →
      HasRoom roomy part key (length slot.0)
  pub places : (part : ℕ) (key : OrderedKey) → is_among roomy part key ≡ true → IsSome (find es part key)

-- after a change: a place that has an entry still has the room that it had, and each value has the room that it takes
pub record KeepRoom (before after : List Place) (es : List Entry) : Type 0 where
  pub kept : (part : ℕ) (key : OrderedKey) → is_among before part key ≡ true → IsSome (find es part key) →
      is_among after part key ≡ true
  pub have : HaveRoom es after

-- whether a value may want more room than the one in whose place it comes: it is neither short nor as short as that
abbrev pub outgrows : List ℕ → List ℕ → Bool
outgrows new old = nat_lt 16 (length new) && nat_lt (length old) (length new)

-- whether a value may want memory at the place of a slot: nothing stands there, or it outgrows what does
abbrev pub needs_room : Option Slot → List ℕ → Bool
needs_room None value = true
needs_room (Some slot) value = outgrows value slot.0
