-- What is known of the runs that have entries left, and of how many entries there are.
use Rattle.std.specs.Prelude.{◌≡◌, ◌+◌, ◌<◌, ◌≤◌, ◌==◌, ℕ, Bool, true, not, List, [], ◌∷◌, map, length, take, drop}
use Rattle.std.specs.Prelude.{slice_index_or, IsSome, is_some, nat_lt, if◌then◌else◌}
use Rattle.std.specs.List.{AllByRecursion, list_any}
use Rattle.am_record.specs.OrderedKey.{OrderedKey}
use Rattle.am_record.specs.Interval.{Interval, within}
use Rattle.am_record.specs.Plain.{Records}
use Rattle.am_record.specs.declared.entry.Entry.{Entry}
use Rattle.am_index.specs.Entries.{find}
use Rattle.am_index.specs.Content.{live_value}
use Rattle.am_index_parts.specs.declared.catalog.OpenRun.{OpenRun}
use Rattle.am_index_parts.specs.declared.catalog.Catalog.{Catalog}

-- how many entries stand in the partition
abbrev pub left_in : ℕ → List Entry → ℕ
left_in part [] = 0
left_in part (e ∷ es) = (if e.part == part then 1 else 0) + left_in part es

-- how many entries are live
abbrev pub live_in : List Entry → ℕ
live_in [] = 0
live_in (e ∷ es) = (if not e.is_ghost then 1 else 0) + live_in es

-- how many entries of the partition are live
abbrev pub live_of : ℕ → List Entry → ℕ
live_of part [] = 0
live_of part (e ∷ es) = (if e.part == part then (if not e.is_ghost then 1 else 0) else 0) + live_of part es

-- the run has entries, just as many as are counted, and as many live ones
pub record IsOpenRun (es : List Entry) (run : OpenRun) : Type 0 where
  pub is_run : 0 < run.part
  pub some : 0 < run.left
  pub exact : run.left ≡ left_in run.part es
  pub live : run.live ≡ live_of run.part es

abbrev pub parts_of : List OpenRun → List ℕ
parts_of runs = map (λ (r : OpenRun). r.part) runs

-- each is below all later ones
abbrev pub PartsRise : List ℕ → Type 0
PartsRise [] = Unit {0}
PartsRise (p ∷ ps) = AllByRecursion (λ q. p < q) ps × PartsRise ps

abbrev pub is_one_of : List ℕ → ℕ → Bool
is_one_of ps part = list_any (λ p. p == part) ps

-- each entry with a key in the range stands in one of the partitions
abbrev pub AllStandIn : List Entry → Interval → List ℕ → Type 0
AllStandIn es range parts = AllByRecursion (λ (e : Entry). within range e.key ≡ true → is_one_of parts e.part ≡ true) es

-- the final partition has so many entries, and the runs are just those in which entries stand
pub record AreListed (es : List Entry) (in_final : ℕ) (runs : List OpenRun) : Type 0 where
  pub counted : in_final ≡ left_in 0 es
  pub each : AllByRecursion (IsOpenRun es) runs
  pub every : AllByRecursion (λ e. 0 < e.part → is_one_of (parts_of runs) e.part ≡ true) es
  pub rising : PartsRise (parts_of runs)

abbrev pub AreCountedIn : List Entry → Catalog → Type 0
AreCountedIn es c = AreListed es c.in_final c.runs.items

-- so many entries there are in all, and so many of them are live
pub record AreAll (es : List Entry) (all alive : ℕ) : Type 0 where
  pub entries : all ≡ length es
  pub live : alive ≡ live_in es

-- the entries are counted, by their partitions and in all
pub record IsCatalog (es : List Entry) (c : Catalog) : Type 0 where
  pub counted : AreCountedIn es c
  pub all : AreAll es c.entries c.live

-- the run at the index is that of the partition
pub record IsRunAt (runs : List OpenRun) (part : ℕ) (i : ℕ) : Type 0 where
  pub in_range : i < length runs
  pub here : (d : OpenRun) → (slice_index_or runs i d).part ≡ part

-- no run is that of the partition, and one would go to the index
pub record IsGapAt (runs : List OpenRun) (part : ℕ) (i : ℕ) : Type 0 where
  pub in_range : i ≤ length runs
  pub below : AllByRecursion (λ r. r.part < part) (take i runs)
  pub above : AllByRecursion (λ r. part < r.part) (drop i runs)

-- an entry of the partition was counted, which was live or not
pub record HasCounted (c : Catalog) (part : ℕ) (was_live : Bool) : Type 0 where
  pub entries : List Entry
  pub key : OrderedKey
  pub catalog : IsCatalog entries c
  pub stands : IsSome (find entries part key)
  pub mark : is_some (live_value (find entries part key)) ≡ was_live

-- the run with one entry more, which is live or not
pub record HasMore (old : OpenRun) (is_live : Bool) (new : OpenRun) : Type 0 where
  pub part : new.part ≡ old.part
  pub left : new.left ≡ old.left + 1
  pub live : new.live ≡ old.live + (if is_live then 1 else 0)

-- the run in which an entry that was live became a ghost, or a ghost live
pub record HasTurned (old : OpenRun) (was_live : Bool) (new : OpenRun) : Type 0 where
  pub part : new.part ≡ old.part
  pub left : new.left ≡ old.left
  pub live : new.live + (if was_live then 1 else 0) ≡ old.live + (if not was_live then 1 else 0)

-- the records may follow the entries as a run of that partition
pub record IsNext (es : List Entry) (part : ℕ) (rs : Records) : Type 0 where
  pub is_run : 0 < part
  pub some : 0 < length rs
  pub above : AllByRecursion (λ e. e.part < part) es

-- how many partitions above the one have entries, of entries that rise
abbrev pub parts_above : ℕ → List Entry → ℕ
parts_above part [] = 0
parts_above part (e ∷ es) = if nat_lt part e.part then 1 + parts_above e.part es else parts_above part es

-- how many runs have entries
abbrev pub runs_in : List Entry → ℕ
runs_in es = parts_above 0 es

-- so many runs have entries: there is a rising list of just these
pub record HasRuns (es : List Entry) (n : ℕ) : Type 0 where
  pub runs : List ℕ
  pub rising : PartsRise runs
  pub each : AllByRecursion (λ part. (0 < part) × (0 < left_in part es)) runs
  pub every : AllByRecursion (λ e. 0 < e.part → is_one_of runs e.part ≡ true) es
  pub number : n ≡ length runs
