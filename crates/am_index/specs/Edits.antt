-- What the edits of a list of entries do, place by place.
use Rattle.std.specs.Prelude.{◌≡◌, ℕ, List, Bool, false, Option, Some, None, IsSome, if◌then◌else◌}
use Rattle.std.specs.Ordering.{eq_by_cmp}
use Rattle.am_record.specs.OrderedKey.{OrderedKey}
use Rattle.am_record.specs.EntryOrder.{place_cmp}
use Rattle.am_record.specs.declared.entry.Entry.{Entry}
use Rattle.am_index.specs.Entries.{Slot, slot_of, entry_at, find, insert_entry, set_entry, remove_entry, IsRising}

-- whether two partitions and keys are one place
abbrev pub same_place : ℕ → OrderedKey → ℕ → OrderedKey → Bool
same_place part key part' key' = eq_by_cmp place_cmp (part, key) (part', key')

-- of the lists, the second has this at the place, and is the first at all other places
pub record IsChangedAt (before after : List Entry) (part : ℕ) (key : OrderedKey) (slot : Option Slot) : Type 0 where
  pub here : find after part key ≡ slot
  pub elsewhere : (part' : ℕ) (key' : OrderedKey) → same_place part' key' part key ≡ false →
      find after part' key' ≡ find before part' key'

-- in a rising list, an entry being put where none stands, and what is set or removed standing there: the list goes on
-- rising
pub record EditsRise (es : List Entry) : Type 0 where
  pub inserted : (x : Entry) → find es x.part x.key ≡ None → IsRising (insert_entry es x)
  pub reset : (part : ℕ) (key : OrderedKey) (value : List ℕ) (is_ghost : Bool) →
      IsRising (set_entry es part key value is_ghost)
  pub removed : (part : ℕ) (key : OrderedKey) → IsRising (remove_entry es part key)

-- one place is changed
pub record EditsChange (es : List Entry) : Type 0 where
  pub inserted : (x : Entry) → IsChangedAt es (insert_entry es x) x.part x.key (Some (slot_of x))
  pub reset : (part : ℕ) (key : OrderedKey) (value : List ℕ) (is_ghost : Bool) → IsSome (find es part key) →
      IsChangedAt es (set_entry es part key value is_ghost) part key (Some (value, is_ghost))
  pub removed : (part : ℕ) (key : OrderedKey) → IsChangedAt es (remove_entry es part key) part key None

-- the same as equations, for any two places
pub record EditsFind (es : List Entry) : Type 0 where
  pub inserted : (x : Entry) (part : ℕ) (key : OrderedKey) →
      find (insert_entry es x) part key ≡ (if same_place part key x.part x.key then Some
      (slot_of x) else find es part key)
  pub reset : (part : ℕ) (key : OrderedKey) (value : List ℕ) (is_ghost : Bool) → IsSome (find es part key) →
      (part' : ℕ) (key' : OrderedKey) →
      find (set_entry es part key value is_ghost) part' key' ≡
      (if same_place part' key' part key then Some (value, is_ghost) else find es part' key')
  pub removed : (part : ℕ) (key : OrderedKey) (part' : ℕ) (key' : OrderedKey) →
      find (remove_entry es part key) part' key' ≡ (if same_place part' key' part key then None else find es part' key')

-- an edit is taken back by another
pub record EditsGoBack (es : List Entry) : Type 0 where
  pub inserted : (x : Entry) → remove_entry (insert_entry es x) x.part x.key ≡ es
  pub removed : (part : ℕ) (key : OrderedKey) (x : Entry) → entry_at es part key ≡ Some x →
      insert_entry (remove_entry es part key) x ≡ es
  pub reset : (part : ℕ) (key : OrderedKey) (old : List ℕ) (was_ghost : Bool) (value : List ℕ)
      (is_ghost : Bool) →
      find es part key ≡ Some (old, was_ghost) → set_entry
      (set_entry es part key value is_ghost) part key old was_ghost ≡ es

-- a removal at one place, and an insertion or a setting at another, may come in either order
pub record EditsCommute (es : List Entry) : Type 0 where
  pub inserted : (x : Entry) (part : ℕ) (key : OrderedKey) → find es x.part x.key ≡ None →
      same_place x.part x.key part key ≡ false →
      remove_entry (insert_entry es x) part key ≡ insert_entry (remove_entry es part key) x
  pub reset : (part : ℕ) (key : OrderedKey) (value : List ℕ) (is_ghost : Bool) (part' : ℕ)
      (key' : OrderedKey) →
      IsSome (find es part key) → same_place part key part' key' ≡ false →
      remove_entry (set_entry es part key value is_ghost) part' key' ≡
      set_entry (remove_entry es part' key') part key value is_ghost

-- what the edits of a rising list do
pub record EditLaws (es : List Entry) : Type 0 where
  pub rise : EditsRise es
  pub change : EditsChange es
  pub finds : EditsFind es
  pub back : EditsGoBack es
  pub commute : EditsCommute es
  -- no other rising list answers alike at every place
  pub only : (fs : List Entry) → IsRising fs → ((part : ℕ) (key : OrderedKey) → find es part key ≡ find fs part key) →
      es ≡ fs
