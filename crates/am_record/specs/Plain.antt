-- The plain map: what each operation answers on it and leaves of it, and what a list of operations gets alone.
use Rattle.std.specs.Prelude.{ℕ, List, [], ◌∷◌, Bool, true, false, cond, not, filter, take, reverse, length}
use Rattle.std.specs.Prelude.{Option, Some, None}
use Rattle.std.specs.List.{list_any}
use Rattle.std.specs.Ordering.{eq_by_cmp}
use Rattle.std.specs.FinMap.{FinMap, get, contains_key, insert, remove, entries, is_sorted}
use Rattle.am_record.specs.OrderedKey.{OrderedKey, key_cmp}
use Rattle.am_record.specs.Interval.{Interval, within}
pub use Rattle.am_record.specs.Records.{Records}
use Rattle.am_record.specs.declared.step.Op.{Op}
use Rattle.am_record.specs.declared.step.Op.TheVariants.{Get, Scan, ScanBack, Insert, Replace, Set, Delete}
use Rattle.am_record.specs.declared.step.Op.TheVariants.{DeleteRange, Load, Put, Lock, Mark, Back}
use Rattle.am_record.specs.declared.step.Reply.{Reply}
use Rattle.am_record.specs.declared.step.Reply.TheVariants.{Done, Found, Absent, Rows, Exists, Missing, Deleted, NoMark}

-- from keys to the bytes of their values
abbrev pub PlainMap : Type 0
PlainMap = FinMap key_cmp (List ℕ)

-- ---- records of a map

-- the map's records whose keys pass the test, by rising key
abbrev pub rows_where : (OrderedKey → Bool) → PlainMap → Records
rows_where test m = filter (λ (e : OrderedKey × List ℕ). test e.0) (entries m)

-- what a scan answers: the first records in the range, by rising key
abbrev pub scan_rows : Interval → ℕ → PlainMap → Records
scan_rows range max m = take max (rows_where (within range) m)

-- what a scan back answers: the last records in the range, from the highest key down
abbrev pub scan_back_rows : Interval → ℕ → PlainMap → Records
scan_back_rows range max m = take max (reverse (rows_where (within range) m))

-- whether the key is that of a record
abbrev pub is_key_of : Records → OrderedKey → Bool
is_key_of records k = list_any (λ (r : OrderedKey × List ℕ). eq_by_cmp key_cmp k r.0) records

-- the map with all the records, a later one over an earlier one of the same key
abbrev pub insert_all : Records → PlainMap → PlainMap
insert_all [] m = m
insert_all (r ∷ rs) m = insert_all rs (insert m r.0 r.1)

-- the map without the records' keys
abbrev pub remove_all : Records → PlainMap → PlainMap
remove_all [] m = m
remove_all (r ∷ rs) m = remove_all rs (remove m r.0)

-- the least of the records' keys that the map has
abbrev pub first_key : Records → Option OrderedKey
first_key [] = None
first_key (row ∷ rows) = Some row.0

abbrev pub least_taken : Records → PlainMap → Option OrderedKey
least_taken records m = first_key (rows_where (is_key_of records) m)

-- whether the map lacks the key of one of the records
abbrev pub has_new : Records → PlainMap → Bool
has_new records m = list_any (λ (r : OrderedKey × List ℕ). not (contains_key m r.0)) records

-- ---- one operation on a map

abbrev pub found : Option (List ℕ) → Reply
found None = Absent
found (Some v) = Found v

abbrev pub exists_or_done : Option OrderedKey → Reply
exists_or_done None = Done
exists_or_done (Some key) = Exists key

-- what the operation answers on a map. What Back answers depends on more: answer, below
abbrev pub map_answer : Op → PlainMap → Reply
map_answer (Get k) m = found (get m k)
map_answer (Scan range max) m = Rows (scan_rows range max m)
map_answer (ScanBack range max) m = Rows (scan_back_rows range max m)
map_answer (Insert k v) m = cond (contains_key m k) (Exists k) Done
map_answer (Replace k v) m = cond (contains_key m k) Done Missing
map_answer (Set k v) m = Done
map_answer (Delete k) m = cond (contains_key m k) Done Missing
map_answer (DeleteRange range max) m = Deleted (length (scan_rows range max m))
map_answer (Load records) m = exists_or_done (least_taken records m)
map_answer (Put records) m = Done
map_answer (Lock lock) m = Done
map_answer Mark m = Done
map_answer Back m = Done

-- the records put in where none of their keys is taken
abbrev pub load_where : Option OrderedKey → Records → PlainMap → PlainMap
load_where None records m = insert_all records m
load_where (Some key) records m = m

-- the map that it leaves. What Mark and Back do is in draft_after, below
abbrev pub map_after : Op → PlainMap → PlainMap
map_after (Get k) m = m
map_after (Scan range max) m = m
map_after (ScanBack range max) m = m
map_after (Insert k v) m = cond (contains_key m k) m (insert m k v)
map_after (Replace k v) m = cond (contains_key m k) (insert m k v) m
map_after (Set k v) m = insert m k v
map_after (Delete k) m = remove m k
map_after (DeleteRange range max) m = remove_all (scan_rows range max m) m
map_after (Load records) m = load_where (least_taken records m) records m
map_after (Put records) m = insert_all records m
map_after (Lock lock) m = m
map_after Mark m = m
map_after Back m = m

-- ---- operations alone

-- what a body works on: its map, and the maps that it saved and hasn't gone back to, the newest first
pub record Draft : Type 0 where
  pub map : PlainMap
  pub saved : List PlainMap

-- a map of which nothing was saved
abbrev pub fresh : PlainMap → Draft
fresh m = record { map = m; saved = [] }

-- what Back answers and does, by the saved maps
abbrev pub went_back : List PlainMap → Reply
went_back [] = NoMark
went_back (m ∷ ms) = Done

abbrev pub draft_back : List PlainMap → Draft → Draft
draft_back [] d = d
draft_back (m ∷ ms) d = record { map = m; saved = ms }

-- what an operation answers on a draft, and the draft that it leaves: Mark saves the map of the moment
abbrev pub answer : Op → Draft → Reply
answer Back d = went_back d.saved
answer op d = map_answer op d.map

abbrev pub draft_after : Op → Draft → Draft
draft_after Mark d = record { map = d.map; saved = d.map ∷ d.saved }
draft_after Back d = draft_back d.saved d
draft_after op d = record { map = map_after op d.map; saved = d.saved }

-- the answers to the operations, one after another with nothing between
abbrev pub answers_on : List Op → Draft → List Reply
answers_on [] d = []
answers_on (op ∷ ops) d = answer op d ∷ answers_on ops (draft_after op d)

-- what they leave
abbrev pub left_on : List Op → Draft → Draft
left_on [] d = d
left_on (op ∷ ops) d = left_on ops (draft_after op d)

-- a whole body alone on a map: its answers, and the map that it leaves
abbrev pub answers : List Op → PlainMap → List Reply
answers ops m = answers_on ops (fresh m)

abbrev pub left : List Op → PlainMap → PlainMap
left ops m = (left_on ops (fresh m)).map

-- ---- records in order

-- whether there are records and they rise strictly by key
abbrev pub is_rising : Records → Bool
is_rising [] = false
is_rising (r ∷ rs) = is_sorted key_cmp (r ∷ rs)

-- whether the operation is none that is refused for the order of its records
abbrev pub is_orderly : Op → Bool
is_orderly (Load records) = is_rising records
is_orderly (Put records) = is_rising records
is_orderly op = true
