-- Locks as lines have them: a mode, and the ends of a range.
use Rattle.std.specs.Prelude.{ℕ, List, codes, Option, Some, None, bytes_eq, option_and_then, if◌then◌else◌}
use Rattle.std.specs.Option.{option_zip}
use Rattle.am_record.specs.OrderedKey.{OrderedKey}
use Rattle.am_record.specs.Interval.{Interval, key_le}
use Rattle.am_record.specs.declared.lock.Mode.{Mode}
use Rattle.am_record.specs.declared.lock.Mode.TheVariants.{Shared, Exclusive}
use Rattle.am_record.specs.declared.lock.Lock.{Lock}
use Rattle.am_line_text.specs.Keys.{key_for}

abbrev pub mode_word : Mode → List ℕ
mode_word Shared = codes "S"
mode_word Exclusive = codes "X"

-- the mode of a field
abbrev pub mode_for : List ℕ → Option Mode
mode_for field = if bytes_eq field (codes "S") then Some Shared else if bytes_eq field
    (codes "X") then Some Exclusive else None

-- the range of two keys, where they stand in order
abbrev pub interval_for : OrderedKey × OrderedKey → Option Interval
interval_for ends = if key_le ends.0 ends.1 then Some (record { lo = ends.0; hi = ends.1 }) else None

abbrev pub range_for : List ℕ → List ℕ → Option Interval
range_for lo hi = option_and_then interval_for (option_zip (key_for lo) (key_for hi))

abbrev pub lock_in : Mode → Interval → Lock
lock_in mode range = record { mode = mode; range = range }
