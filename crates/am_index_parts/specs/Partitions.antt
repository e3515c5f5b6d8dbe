-- What is seen of the partitions of an index, where a key lives in them, and what their changes do to the content.
use Rattle.std.specs.Prelude.{◌≡◌, ◌≤◌, ◌<◌, ◌^◌, ℕ, List, [], ◌∷◌, length, take, Bool, true, false, Option, Some, None}
use Rattle.std.specs.Prelude.{is_some, refl, if◌then◌else◌}
use Rattle.std.specs.List.{AllByRecursion}
use Rattle.std.specs.Coded.{Coded, code_by, coded×, coded_ℕ, coded_list}
use Rattle.std.specs.FinMap.{get, insert, remove}
use Rattle.am_record.specs.OrderedKey.{OrderedKey, key_code}
use Rattle.am_record.specs.Plain.{PlainMap, Records, is_key_of}
use Rattle.am_record.specs.EntryOrder.{Place}
use Rattle.am_record.specs.declared.entry.Entry.{Entry}
use Rattle.am_index.specs.Entries.{Slot, find, all_from, insert_entry, set_entry, remove_entry, IsRising}
use Rattle.am_index.specs.EntryCode.{entries_code}
use Rattle.am_index.specs.Content.{content, OnePlace, IsLiveAt, live_value}
use Rattle.am_index.specs.Rooms.{needs_room}
use Rattle.am_index_parts.specs.declared.parts.Vacancy.{Vacancy}
use Rattle.am_index_parts.specs.declared.parts.Vacancy.TheVariants.{Taken, Ghost, Free}

-- the entries of all partitions, how many runs were made, and the places of entries for which room for a value of any
-- length was got
pub record Partitions : Type 0 where
  pub entries : List Entry
  pub runs : ℕ
  pub roomy : List Place

abbrev pub partitions_code : Coded Partitions
partitions_code =
    code_by (List Entry × (ℕ × List Place))
    (coded× entries_code (coded× coded_ℕ (coded_list (coded× coded_ℕ key_code))))
    (λ p. (p.entries, (p.runs, p.roomy)))
    (λ p. record { entries = p.0; runs = p.1.0; roomy = p.1.1 }) (λ _. refl)

-- the entries rise, no key is live in two partitions, and the numbers of partitions are u32s
pub record AreWellFormed (es : List Entry) : Type 0 where
  pub rising : IsRising es
  pub one_place : OnePlace es
  pub fits : AllByRecursion (λ e. e.part < 2 ^ 32) es

-- the partitions from the one up to the other have no entry
pub record AreEmpty (es : List Entry) (from to : ℕ) : Type 0 where
  pub none : (part : ℕ) (key : OrderedKey) → from ≤ part → part < to → find es part key ≡ None

-- the same of all partitions from one on
pub record AreEmptyFrom (es : List Entry) (from : ℕ) : Type 0 where
  pub none : (part : ℕ) (key : OrderedKey) → from ≤ part → find es part key ≡ None

-- the key is live in the partition, with the value that the content has
pub record LivesIn (es : List Entry) (part : ℕ) (key : OrderedKey) : Type 0 where
  pub value : List ℕ
  pub live : IsLiveAt es part key value
  pub in_content : get (content es) key ≡ Some value

-- the entry is the one that has the key live
pub record IsLiveEntry (es : List Entry) (key : OrderedKey) (e : Entry) : Type 0 where
  pub key_is : e.key ≡ key
  pub no_ghost : e.is_ghost ≡ false
  pub there : IsLiveAt es e.part key e.value
  pub has : get (content es) key ≡ Some e.value

-- the key is live in no partition but the final one
pub record LivesInNoRun (es : List Entry) (key : OrderedKey) : Type 0 where
  pub none : (part : ℕ) (value : List ℕ) → 0 < part → ¬ IsLiveAt es part key value

-- the key is live in no other partition
pub record LivesNowhereElse (es : List Entry) (part : ℕ) (key : OrderedKey) : Type 0 where
  pub only : (part' : ℕ) (value : List ℕ) → IsLiveAt es part' key value → part' ≡ part

-- no key of the records is live in the partition
pub record NoneLiveIn (es : List Entry) (part : ℕ) (records : Records) : Type 0 where
  pub none : (key : OrderedKey) (value : List ℕ) → is_key_of records key ≡ true → ¬ IsLiveAt es part key value

-- none is live at all
abbrev pub AreAllAbsent : List Entry → Records → Type 0
AreAllAbsent es records = AllByRecursion (λ (r : OrderedKey × List ℕ). get (content es) r.0 ≡ None) records

-- the content with the entry, which a ghost leaves as it is
abbrev pub content_with : List Entry → Entry → PlainMap
content_with es x = if x.is_ghost then content es else insert (content es) x.key x.value

-- the content without the entry of that partition and key
abbrev pub content_without : List Entry → ℕ → OrderedKey → PlainMap
content_without es part key = if is_some (live_value (find es part key)) then remove (content es) key else content es

-- the content with that value and mark at that partition and key
abbrev pub content_set : List Entry → ℕ → OrderedKey → List ℕ → Bool → PlainMap
content_set es part key value is_ghost = if is_ghost then content_without es part key else insert
    (content es) key value

-- what a new record of the key meets: the live entry; else a ghost of it may stand in the final partition, or nothing
abbrev pub IsVacancy : List Entry → OrderedKey → Vacancy → Type 0
IsVacancy es key (Taken e) = IsLiveEntry es key e
IsVacancy es key (Ghost value) = (find es 0 key ≡ Some (value, true)) × (get (content es) key ≡ None)
IsVacancy es key Free = (find es 0 key ≡ None) × (get (content es) key ≡ None)

-- that of a key which is live nowhere, by what stands in the final partition
abbrev pub vacancy_over : Option Slot → Vacancy
vacancy_over None = Free
vacancy_over (Some s) = Ghost s.0

-- the list in which the live entry of a run stands in the final partition too, in place of any ghost there
abbrev pub settled : Entry → List Entry → List Entry
settled e es = if is_some (find es 0 e.key) then set_entry es 0 e.key e.value false else insert_entry es
    (record e { part = 0; is_ghost = false })

-- the same of any entry of a run: a ghost stays where it is
abbrev pub settled_too : Entry → List Entry → List Entry
settled_too e es = if e.is_ghost then es else settled e es

abbrev pub all_settled : List Entry → List Entry → List Entry
all_settled [] es = es
all_settled (e ∷ more) es = all_settled more (settled_too e es)

-- the list in which it has moved there
abbrev pub brought_home : Entry → List Entry → List Entry
brought_home e es = remove_entry (settled e es) e.part e.key

-- the list in which an entry of a run went home: a live one moved, and a ghost is gone
abbrev pub gone_home : Entry → List Entry → List Entry
gone_home e es = if e.is_ghost then remove_entry es e.part e.key else brought_home e es

abbrev pub all_gone_home : List Entry → List Entry → List Entry
all_gone_home [] es = es
all_gone_home (e ∷ more) es = all_gone_home more (gone_home e es)

-- the first of the entries is live, and its value may want memory in the final partition: nothing of its key stands
-- there, or the value outgrows that of the ghost that does
abbrev pub FirstNeedsRoom : List Entry → List Entry → Type 0
FirstNeedsRoom es [] = ⊥
FirstNeedsRoom es (e ∷ more) = (e.is_ghost ≡ false) × (needs_room (find es 0 e.key) e.value ≡ true)

-- the entries are the first ones of a run from some key on
pub record IsStretch (es xs : List Entry) : Type 0 where
  pub run : ℕ
  pub key : OrderedKey
  pub is_run : 0 < run
  pub first : xs ≡ take (length xs) (all_from es run key)
