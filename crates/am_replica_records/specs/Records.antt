-- The records of a map, as scans tell them.
use Rattle.std.specs.Prelude.{◌≡◌, ℕ, List, [], true, filter, Option, Some, None}
use Rattle.std.specs.List.{AllByRecursion}
use Rattle.std.specs.FinMap.{entries}
use Rattle.am_record.specs.OrderedKey.{OrderedKey}
use Rattle.am_record.specs.Limits.{max_rows}
use Rattle.am_record.specs.Interval.{key_le, key_greatest}
use Rattle.am_record.specs.Plain.{PlainMap, Records, rows_where}

-- the most records of a page
abbrev pub page_len : ℕ
page_len = max_rows

-- the records of the map by rising key, but for keys above the longest key of the highest bytes, which no key is
abbrev pub all_rows : PlainMap → Records
all_rows m = rows_where (λ k. key_le k key_greatest) m

-- those from a key on
abbrev pub rows_from : OrderedKey → PlainMap → Records
rows_from key m = filter (λ (e : OrderedKey × List ℕ). key_le key e.0) (all_rows m)

-- those that are left to be told, where there are some
abbrev pub left_from : Option OrderedKey → PlainMap → Records
left_from None m = []
left_from (Some key) m = rows_from key m

-- The premise: no key of the map is above that one, as none that a line or a call of C can name is.
abbrev pub HasKeys : PlainMap → Type 0
HasKeys m = AllByRecursion (λ (e : OrderedKey × List ℕ). key_le e.0 key_greatest ≡ true) (entries m)
