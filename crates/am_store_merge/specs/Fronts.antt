-- The front of a range: its first keys, with few entries in each run.
use Rattle.std.specs.Prelude.{◌≡◌, ◌≢◌, ◌⊎◌, ℕ, ◌<◌, ◌≤◌, List, [], length, filter, slice_get, true}
use Rattle.std.specs.Prelude.{Option, Some, None}
use Rattle.am_record.specs.OrderedKey.{OrderedKey}
use Rattle.am_record.specs.Interval.{Interval, key_le}
use Rattle.am_record.specs.declared.entry.Entry.{Entry}
use Rattle.am_index.specs.Entries.{first_such, all_from}
use Rattle.am_index_parts.specs.MergedRanges.{HasNoneBefore}
use Rattle.am_law_effect.specs.MergeAnswers.{candidates}
use Rattle.am_store_merge.specs.Walks.{in_part, in_parts_from}

-- the entry is the sixteenth of its run, counted from the key on
pub record IsSixteenth (es : List Entry) (from : OrderedKey) (e : Entry) : Type 0 where
  pub in_run : 0 < e.part
  pub counted : slice_get (all_from es e.part from) 15 ≡ Some e

-- where the front ends: with the range, or at the sixteenth entry of a run
abbrev pub IsFrontEnd : List Entry → Interval → OrderedKey → Type 0
IsFrontEnd es range key = (key ≡ range.hi) ⊎ ((e : Entry) × IsSixteenth es range.lo e × (key ≡ e.key))

-- the front of the range: its keys up to the first at which a run has its sixteenth entry, or all of them
pub record IsFront (es : List Entry) (range front : Interval) : Type 0 where
  pub begins : front.lo ≡ range.lo
  pub ends : IsFrontEnd es range front.hi
  pub inside : key_le front.hi range.hi ≡ true
  pub first : (e : Entry) → IsSixteenth es range.lo e → key_le front.hi e.key ≡ true
  pub few : (run : ℕ) → 0 < run → length (filter (in_part run front) es) ≤ 16

-- the next piece of the range to merge: its front, or none where no run has an entry of the range
abbrev pub IsNextInRuns : List Entry → Interval → Option Interval → Type 0
IsNextInRuns es range None = candidates es range ≡ []
IsNextInRuns es range (Some front) = (candidates es range ≢ []) × IsFront es range front

-- the same by the runs before one: no run has been found with an entry of the range, or the front is known so far
pub record IsFrontBefore (es : List Entry) (range : Interval) (run : ℕ) (front : Interval) : Type 0 where
  pub begins : front.lo ≡ range.lo
  pub ends : IsFrontEnd es range front.hi
  pub inside : key_le front.hi range.hi ≡ true
  pub first : (e : Entry) → IsSixteenth es range.lo e → e.part < run → key_le front.hi e.key ≡ true
  pub some : first_such (in_parts_from 1 range) es ≢ None

abbrev pub FrontBefore : List Entry → Interval → ℕ → Option Interval → Type 0
FrontBefore es range run None = HasNoneBefore es range run
FrontBefore es range run (Some front) = IsFrontBefore es range run front
