-- The limits of the store, each in one place.
use Rattle.std.specs.Prelude.{ℕ, ◌^◌}

-- the most bytes that a key may have
abbrev pub max_key_bytes : ℕ
max_key_bytes = 32

-- the most bytes that a value may have
abbrev pub max_value_bytes : ℕ
max_value_bytes = 64

-- the most transactions that are active at once
abbrev pub max_active : ℕ
max_active = 64

-- the most transactions that are ever begun
abbrev pub max_begun : ℕ
max_begun = 2 ^ 63

-- the most operations that are answered to one transaction
abbrev pub max_ops : ℕ
max_ops = 4096

-- the most locks that a transaction holds
abbrev pub max_locks : ℕ
max_locks = 256

-- the most rows that a scan may ask for
abbrev pub max_rows : ℕ
max_rows = 1000

-- the most runs that have entries at once, and the most that are ever made by a store that isn't told another number
abbrev pub max_runs : ℕ
max_runs = 65535

-- the greatest number that a run may have
abbrev pub last_run : ℕ
last_run = 4294967294

-- the most records of a run that is cut from records in any order, and of those that lines stage for one load
abbrev pub max_run_records : ℕ
max_run_records = 65536

-- the most entries that a merge or a clean step may be asked to work off
abbrev pub max_limit : ℕ
max_limit = 64
