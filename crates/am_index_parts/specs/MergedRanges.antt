-- Ranges that were merged: in which runs they have no entry left.
use Rattle.std.specs.Prelude.{◌≡◌, ◌+◌, ◌<◌, ◌≤◌, ℕ, List, false}
use Rattle.std.specs.List.{AllByRecursion}
use Rattle.am_record.specs.Interval.{Interval, within}
use Rattle.am_record.specs.declared.entry.Entry.{Entry}
use Rattle.am_index_parts.specs.declared.merged_ranges.MergedRange.{MergedRange}

-- no run before that one has an entry with a key in the range
abbrev pub HasNoneBefore : List Entry → Interval → ℕ → Type 0
HasNoneBefore es range run = AllByRecursion (λ e. 0 < e.part → e.part < run → within range e.key ≡ false) es

-- so it is with the range and its first run, which is one that was made, or the next one to come
pub record IsMerged (es : List Entry) (runs : ℕ) (m : MergedRange) : Type 0 where
  pub made : m.first_run ≤ runs + 1
  pub none_before : HasNoneBefore es m.range m.first_run

abbrev pub AreMerged : List Entry → ℕ → List MergedRange → Type 0
AreMerged es runs ms = AllByRecursion (IsMerged es runs) ms

-- whatever the entries, where the former are merged so are the latter
abbrev pub SayNoMore : List MergedRange → List MergedRange → Type 0
SayNoMore ms ms' = (es : List Entry) (runs : ℕ) → AreMerged es runs ms → AreMerged es runs ms'
