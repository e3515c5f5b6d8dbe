-- What each operation does, by its answer: which keys it writes, the wish that it leaves, and what it does to the
-- entries, to the notes and to the marks.
use Rattle.std.specs.Prelude.{ℕ, ◌+◌, List, [], ◌∷◌, ◌++◌, Bool, true, false, ◌&&◌, not, filter, Option, Some, None}
use Rattle.std.specs.List.{filter_map}
use Rattle.std.specs.Option.{option_map}
use Rattle.std.specs.Ordering.{eq_by_cmp}
use Rattle.std.specs.FinMap.{contains_key}
use Rattle.am_record.specs.OrderedKey.{OrderedKey, key_cmp}
use Rattle.am_record.specs.Interval.{Interval, point, within}
use Rattle.am_record.specs.Plain.{Records, PlainMap, is_key_of, scan_rows}
use Rattle.am_record.specs.Marks.{until_mark, older}
use Rattle.am_record.specs.declared.entry.Entry.{Entry}
use Rattle.am_record.specs.declared.step.Op.{Op}
use Rattle.am_record.specs.declared.step.Op.TheVariants.{Get, Scan, ScanBack, Insert, Replace, Set, Delete}
use Rattle.am_record.specs.declared.step.Op.TheVariants.{DeleteRange, Load, Put, Mark, Back}
use Rattle.am_record.specs.declared.step.Reply.{Reply}
use Rattle.am_record.specs.declared.step.Reply.TheVariants.{Done, Found, Absent, Rows, Deleted}
use Rattle.am_index.specs.Entries.{Slot, first_such, find, set_entry}
use Rattle.am_index.specs.Content.{content}
use Rattle.am_index.specs.Runs.{live_entry, with_run}
use Rattle.am_store_undo.specs.declared.note.Note.{Note}
use Rattle.am_store_undo.specs.declared.note.Note.TheVariants.{New, Before, RunMade}
use Rattle.am_law_effect.specs.Places.{put}

-- whether the operation, with this answer, wrote the key: that it deletes from a range counts for all keys of the range
abbrev pub writes : Op → Reply → OrderedKey → Bool
writes (Insert k v) Done q = eq_by_cmp key_cmp q k
writes (Replace k v) Done q = eq_by_cmp key_cmp q k
writes (Set k v) Done q = eq_by_cmp key_cmp q k
writes (Delete k) Done q = eq_by_cmp key_cmp q k
writes (DeleteRange range max) (Deleted n) q = within range q
writes (Load records) Done q = is_key_of records q
writes (Put records) Done q = is_key_of records q
writes _ _ q = false

abbrev pub sets_mark : Op → Reply → Bool
sets_mark Mark Done = true
sets_mark _ _ = false

abbrev pub goes_back : Op → Reply → Bool
goes_back Back Done = true
goes_back _ _ = false

-- whether the operation neither sets a mark nor goes back to one
abbrev pub is_plain : Op → Bool
is_plain Mark = false
is_plain Back = false
is_plain op = true

-- the wish that an answered read leaves
abbrev pub wished : Op → Reply → Option Interval
wished (Get k) (Found v) = Some (point k)
wished (Get k) Absent = Some (point k)
wished (Scan range max) (Rows rows) = Some range
wished (ScanBack range max) (Rows rows) = Some range
wished _ _ = None

-- ---- entries

-- the live entry of the key
abbrev pub is_live : OrderedKey → Entry → Bool
is_live k e = not e.is_ghost && eq_by_cmp key_cmp e.key k

abbrev pub find_live : List Entry → OrderedKey → Option Entry
find_live es k = first_such (is_live k) es

-- the list with another value in the entry, or with the entry as a ghost
abbrev pub with_value : Option Entry → List ℕ → List Entry → List Entry
with_value None v es = es
with_value (Some e) v es = set_entry es e.part e.key v false

abbrev pub with_ghost : Option Entry → List Entry → List Entry
with_ghost None es = es
with_ghost (Some e) es = set_entry es e.part e.key e.value true

-- the list with a record set: where it is live, or else in the final partition
abbrev pub with_record : Option Entry → OrderedKey → List ℕ → List Entry → List Entry
with_record None k v es = put (live_entry 0 (k, v)) es
with_record (Some e) k v es = with_value (Some e) v es

-- the list with the live entry of each record as a ghost
abbrev pub with_ghosts : Records → List Entry → List Entry
with_ghosts [] es = es
with_ghosts (r ∷ rs) es = with_ghosts rs (with_ghost (find_live es r.0) es)

-- the records whose keys the map lacks
abbrev pub new_records : Records → PlainMap → Records
new_records records m = filter (λ (r : OrderedKey × List ℕ). not (contains_key m r.0)) records

-- a live entry, and the value that it gets
abbrev pub Update : Type 0
Update = Entry × List ℕ

-- of each record whose key is live, its entry and the record's value
abbrev pub update_of : List Entry → OrderedKey × List ℕ → Option Update
update_of es r = option_map (λ (e : Entry). (e, r.1)) (find_live es r.0)

abbrev pub updates : Records → List Entry → List Update
updates records es = filter_map (update_of es) records

-- the list with these values
abbrev pub updated : List Update → List Entry → List Entry
updated [] es = es
updated (u ∷ us) es = updated us (with_value (Some u.0) u.1 es)

-- what an operation with this answer does, after so many runs; Back leaves `back`
abbrev pub changed : List Entry → ℕ → Op → Reply → List Entry → List Entry
changed back runs (Insert k v) Done es = put (live_entry 0 (k, v)) es
changed back runs (Replace k v) Done es = with_value (find_live es k) v es
changed back runs (Set k v) Done es = with_record (find_live es k) k v es
changed back runs (Delete k) Done es = with_ghost (find_live es k) es
changed back runs (DeleteRange range max) (Deleted n) es = with_ghosts (scan_rows range max (content es)) es
changed back runs (Load records) Done es = with_run (runs + 1) records es
changed back runs (Put records) Done es =
    updated (updates records es) (with_run (runs + 1) (new_records records (content es)) es)
changed back runs Back Done es = back
changed back runs _ _ es = es

-- ---- notes and marks

-- the note of a change at the place, by what stands there before
abbrev pub note_of_slot : ℕ → OrderedKey → Option Slot → Note
note_of_slot p k None = New k
note_of_slot p k (Some s) = Before p k s.0 s.1

abbrev pub note_of_entry : Option Entry → List Note
note_of_entry None = []
note_of_entry (Some e) = Before e.part e.key e.value e.is_ghost ∷ []

-- the note of a record that is set
abbrev pub note_of_record : Option Entry → OrderedKey → List Entry → Note
note_of_record None k es = note_of_slot 0 k (find es 0 k)
note_of_record (Some e) k es = Before e.part e.key e.value e.is_ghost

-- the notes of records that are deleted one after another, the last one's first
abbrev pub notes_of_ghosts : Records → List Entry → List Note
notes_of_ghosts [] es = []
notes_of_ghosts (r ∷ rs) es =
    notes_of_ghosts rs (with_ghost (find_live es r.0) es) ++ note_of_entry (find_live es r.0)

-- the notes of values, the last one's first
abbrev pub notes_of_updates : List Update → List Note
notes_of_updates [] = []
notes_of_updates (u ∷ us) = notes_of_updates us ++ note_of_entry (Some u.0)

-- the note of a run, where there are records for it
abbrev pub note_of_run : ℕ → Records → List Note
note_of_run run [] = []
note_of_run run (r ∷ rs) = RunMade run ∷ []

-- what an operation with this answer notes
abbrev pub noted : ℕ → Op → Reply → List Entry → List Note
noted runs (Insert k v) Done es = note_of_slot 0 k (find es 0 k) ∷ []
noted runs (Replace k v) Done es = note_of_entry (find_live es k)
noted runs (Set k v) Done es = note_of_record (find_live es k) k es ∷ []
noted runs (Delete k) Done es = note_of_entry (find_live es k)
noted runs (DeleteRange range max) (Deleted n) es = notes_of_ghosts (scan_rows range max (content es)) es
noted runs (Load records) Done es = RunMade (runs + 1) ∷ []
noted runs (Put records) Done es =
    notes_of_updates (updates records es) ++ note_of_run (runs + 1) (new_records records (content es))
noted runs _ _ es = []

-- the notes that stay, by the marks: those taken back are gone
abbrev pub notes_left : Op → Reply → List ℕ → List Note → List Note
notes_left Back Done marks notes = until_mark marks notes
notes_left _ _ marks notes = notes

-- the marks after, where there are so many notes: each is the number of notes at its Mark
abbrev pub marks_left : Op → Reply → ℕ → List ℕ → List ℕ
marks_left Mark Done count marks = count ∷ marks
marks_left Back Done count marks = older marks
marks_left _ _ count marks = marks
