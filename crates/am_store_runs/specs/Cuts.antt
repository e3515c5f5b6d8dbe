-- How records are cut into runs, and why they can't be.
use Rattle.std.specs.Prelude.{◌≡◌, ◌<◌, ◌≤◌, ℕ, List, [], ◌∷◌, ◌++◌, true, ⊤, length, map, take, drop, count_by}
use Rattle.std.specs.Ordering.{eq_by_cmp}
use Rattle.std.specs.List.Sorted.{IsPermutation}
use Rattle.am_record.specs.Limits.{max_run_records}
use Rattle.am_record.specs.OrderedKey.{OrderedKey, key_cmp}
use Rattle.am_record.specs.Interval.{key_le}
use Rattle.am_record.specs.Plain.{Records}
use Rattle.am_record.specs.Plain.{is_rising}
use Rattle.am_store_runs.specs.declared.fault.LoadFault.{LoadFault}
use Rattle.am_store_runs.specs.declared.fault.LoadFault.TheVariants.{NotRising, BadSize, Twice, NoMemory}

abbrev pub keys_of : Records → List OrderedKey
keys_of records = map (λ (r : OrderedKey × List ℕ). r.0) records

-- how often the key stands among the keys
abbrev pub times_among : OrderedKey → List OrderedKey → ℕ
times_among key keys = count_by (λ k. eq_by_cmp key_cmp key k) keys

-- no key stands twice
pub record NoneTwice (keys : List OrderedKey) : Type 0 where
  pub once : (key : OrderedKey) → times_among key keys ≤ 1

-- the key stands twice or more, and no key below it does
pub record IsLeastTwice (keys : List OrderedKey) (key : OrderedKey) : Type 0 where
  pub twice : 2 ≤ times_among key keys
  pub least : (other : OrderedKey) → 2 ≤ times_among other keys → key_le key other ≡ true

-- the records of the piece, all of them, by rising key
pub record IsSortedPiece (piece run : Records) : Type 0 where
  pub rising : is_rising run ≡ true
  pub same : IsPermutation piece run

-- when each fault may be answered in place of the run of the records
abbrev pub IsSortFault : Records → LoadFault → Type 0
IsSortFault records NotRising = records ≡ []
IsSortFault records (Twice key) = IsLeastTwice (keys_of records) key
IsSortFault records NoMemory = 0 < length records
IsSortFault records BadSize = ⊥

-- the first n records make the first run, the next n the second, and so on; the last run may have fewer
abbrev pub AreRunsOf : ℕ → Records → List Records → Type 0
AreRunsOf n records [] = records ≡ []
AreRunsOf n records (run ∷ runs) = IsSortedPiece (take n records) run × AreRunsOf n (drop n records) runs

-- the records of the runs, one run after another
abbrev pub records_of : List Records → Records
records_of [] = []
records_of (run ∷ runs) = run ++ records_of runs

-- how many records a run may be cut to have
pub record IsRunSize (n : ℕ) : Type 0 where
  pub low : 1 ≤ n
  pub high : n ≤ max_run_records

-- the records are cut into these runs of n, and no key stands twice in them
pub record IsCut (n : ℕ) (records : Records) (runs : List Records) : Type 0 where
  pub size : IsRunSize n
  pub apart : NoneTwice (keys_of records)
  pub pieces : AreRunsOf n records runs

-- when each fault may be answered
abbrev pub IsCutFault : ℕ → Records → LoadFault → Type 0
IsCutFault n records BadSize = ¬ (IsRunSize n)
IsCutFault n records (Twice key) = IsRunSize n × IsLeastTwice (keys_of records) key
IsCutFault n records NoMemory = IsRunSize n
IsCutFault n records NotRising = ⊥

-- when the sorting of the pieces may fail
abbrev pub IsPieceFault : Records → LoadFault → Type 0
IsPieceFault records (Twice key) = 2 ≤ times_among key (keys_of records)
IsPieceFault records NoMemory = ⊤
IsPieceFault records NotRising = ⊥
IsPieceFault records BadSize = ⊥

-- when the search for a key that stands twice may fail, or find one
abbrev pub IsTwiceFault : Records → LoadFault → Type 0
IsTwiceFault records (Twice key) = IsLeastTwice (keys_of records) key
IsTwiceFault records NoMemory = ⊤
IsTwiceFault records NotRising = ⊥
IsTwiceFault records BadSize = ⊥
