-- A walk through one partition, by what it has read.
use Rattle.std.specs.Prelude.{◌≡◌, ◌++◌, List, true, drop}
use Rattle.am_record.specs.OrderedKey.{OrderedKey}
use Rattle.am_record.specs.Interval.{key_le}
use Rattle.am_record.specs.declared.entry.Entry.{Entry}
use Rattle.am_index.specs.Entries.{first_such, next_from, all_after}
use Rattle.am_store_loads.specs.declared.walk.Walk.{Walk}

-- at any key from this one on, the partition's first entry is the first one among those that were read and not passed,
-- and those after the last
pub record IsWalkFrom (es : List Entry) (low : OrderedKey) (walk : Walk) : Type 0 where
  pub finds : (key : OrderedKey) → key_le low key ≡ true →
      next_from es walk.part key ≡ first_such (λ e. key_le key e.key)
      (drop walk.passed walk.read ++ all_after es walk.part walk.last)
