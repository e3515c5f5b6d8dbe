-- The content of an index: the map of the live entries of its list, no key being live in two partitions.
use Rattle.std.specs.Prelude.{◌≡◌, ◌≢◌, ◌==◌, ◌&&◌, ℕ, List, true, false, not, map, filter, Option, Some, None}
use Rattle.std.specs.Prelude.{if◌then◌else◌}
use Rattle.std.specs.FinMap.{get, insert, remove, from_entries, is_sorted, find as row_with}
use Rattle.am_record.specs.OrderedKey.{OrderedKey, key_cmp}
use Rattle.am_record.specs.Interval.{Interval, within}
use Rattle.am_record.specs.Plain.{PlainMap, Records}
use Rattle.am_record.specs.declared.entry.Entry.{Entry}
use Rattle.am_index.specs.Entries.{Slot, find, insert_entry, set_entry, remove_entry, IsRising}

-- the records of the live entries
abbrev pub live_records : List Entry → Records
live_records es = map (λ (e : Entry). (e.key, e.value)) (filter (λ (e : Entry). not e.is_ghost) es)

-- the live records of that partition in the range
abbrev pub rows_in : List Entry → ℕ → Interval → Records
rows_in es part range = live_records (filter (λ (e : Entry). e.part == part && within range e.key) es)

-- what the rows have for a key
abbrev pub row_at : OrderedKey → Records → Option (List ℕ)
row_at key rows = row_with key_cmp key rows

-- the map of the live entries
abbrev pub content : List Entry → PlainMap
content es = from_entries (live_records es)

-- the key is live in the partition, with the value
pub record IsLiveAt (es : List Entry) (part : ℕ) (key : OrderedKey) (value : List ℕ) : Type 0 where
  pub there : find es part key ≡ Some (value, false)

-- no key is live in two partitions
pub record OnePlace (es : List Entry) : Type 0 where
  pub one : (key : OrderedKey) (part part' : ℕ) (value value' : List ℕ) → IsLiveAt es part key value →
      IsLiveAt es part' key value' → part ≡ part'

-- what is live in the range is live in that partition
pub record LivesInOne (es : List Entry) (part : ℕ) (range : Interval) : Type 0 where
  pub one : (p : ℕ) (key : OrderedKey) (value : List ℕ) → IsLiveAt es p key value → within range key ≡ true → p ≡ part

-- the entries rise, no key is live in two partitions, and this map is the content
pub record HasContent (es : List Entry) (m : PlainMap) : Type 0 where
  pub rising : IsRising es
  pub one_place : OnePlace es
  pub same : content es ≡ m

-- the value of what stands at a place, where it is live
abbrev pub live_value : Option Slot → Option (List ℕ)
live_value None = None
live_value (Some s) = if s.1 then None else Some s.0

-- the rows of the partition in the range rise, and are what is live there
pub record RowsRead (es : List Entry) (part : ℕ) (range : Interval) : Type 0 where
  pub rise : is_sorted key_cmp (rows_in es part range) ≡ true
  pub live : (key : OrderedKey) → row_at key (rows_in es part range) ≡
      (if within range key then live_value (find es part key) else None)

-- of the partitions one at most has a live value, and it is this one
pub record HasOne (at : ℕ → Option (List ℕ)) (value : Option (List ℕ)) : Type 0 where
  pub sound : (part : ℕ) (v : List ℕ) → at part ≡ Some v → value ≡ Some v
  pub full : (v : List ℕ) → value ≡ Some v → (part : ℕ) × (at part ≡ Some v)
  pub one : (part part' : ℕ) (v v' : List ℕ) → at part ≡ Some v → at part' ≡ Some v' → part ≡ part'

-- what has the key live in the partitions of the list
abbrev pub values_at : List Entry → OrderedKey → ℕ → Option (List ℕ)
values_at es key part = live_value (find es part key)

-- of a list that rises and in which no key is live in two partitions: the content has a key exactly where some
-- partition has it live
pub record ContentReads (es : List Entry) : Type 0 where
  pub live : (part : ℕ) (key : OrderedKey) (value : List ℕ) → IsLiveAt es part key value →
      get (content es) key ≡ Some value
  pub found : (key : OrderedKey) (value : List ℕ) → get (content es) key ≡ Some value →
      (part : ℕ) × IsLiveAt es part key value
  pub dead : (key : OrderedKey) → ((part : ℕ) (value : List ℕ) → IsLiveAt es part key value → ⊥) →
      get (content es) key ≡ None
  pub has_one : (key : OrderedKey) → HasOne (values_at es key) (get (content es) key)

-- an entry is added where none stands
pub record ContentAdds (es : List Entry) : Type 0 where
  pub added : (x : Entry) → find es x.part x.key ≡ None → x.is_ghost ≡ false → get (content es) x.key ≡ None →
      HasContent (insert_entry es x) (insert (content es) x.key x.value)
  pub ghost_added : (x : Entry) → find es x.part x.key ≡ None → x.is_ghost ≡ true →
      HasContent (insert_entry es x) (content es)

-- the value of an entry is set, and whether it is a ghost
pub record ContentSets (es : List Entry) : Type 0 where
  pub replaced : (part : ℕ) (key : OrderedKey) (old value : List ℕ) → IsLiveAt es part key old →
      HasContent (set_entry es part key value false) (insert (content es) key value)
  pub made_ghost : (part : ℕ) (key : OrderedKey) (old value : List ℕ) → IsLiveAt es part key old →
      HasContent (set_entry es part key value true) (remove (content es) key)
  pub revived : (part : ℕ) (key : OrderedKey) (old value : List ℕ) → find es part key ≡ Some (old, true) →
      get (content es) key ≡ None →
      HasContent (set_entry es part key value false) (insert (content es) key value)
  pub ghost_set : (part : ℕ) (key : OrderedKey) (old value : List ℕ) → find es part key ≡ Some (old, true) →
      HasContent (set_entry es part key value true) (content es)

-- an entry is removed
pub record ContentRemoves (es : List Entry) : Type 0 where
  pub removed : (part : ℕ) (key : OrderedKey) (old : List ℕ) → IsLiveAt es part key old →
      HasContent (remove_entry es part key) (remove (content es) key)
  pub ghost_removed : (part : ℕ) (key : OrderedKey) (old : List ℕ) → find es part key ≡ Some (old, true) →
      HasContent (remove_entry es part key) (content es)

-- a live entry goes to another partition: to a new place, or over a ghost
pub record ContentMoves (es : List Entry) : Type 0 where
  pub moved : (x : Entry) (part : ℕ) → IsLiveAt es part x.key x.value → part ≢ x.part → x.is_ghost ≡ false →
      find es x.part x.key ≡ None →
      HasContent (remove_entry (insert_entry es x) part x.key) (content es)
  pub moved_over_ghost : (part part' : ℕ) (key : OrderedKey) (value old : List ℕ) → IsLiveAt es part key value →
      find es part' key ≡ Some (old, true) →
      HasContent (remove_entry (set_entry es part' key value false) part key) (content es)

-- what the content of a list says, and what each edit does to it
pub record ContentLaws (es : List Entry) : Type 0 where
  pub reads : ContentReads es
  pub adds : ContentAdds es
  pub sets : ContentSets es
  pub removes : ContentRemoves es
  pub moves : ContentMoves es
