-- Records that are named by where they stand.
use Rattle.std.specs.Prelude.{◌≡◌, ◌<◌, ◌-◌, ◌++◌, ℕ, List, [], true, map, length, get_or, take, drop, Vec}
use Rattle.std.specs.Coded.{Coded, coded_list}
use Rattle.std.specs.List.{AllByRecursion}
use Rattle.std.specs.List.Sorted.{IsPermutation, IsSortedByKey}
use Rattle.std.specs.declared.alloc.Global.{Global}
use Rattle.am_record.specs.KeyFront.{key_front}
use Rattle.am_record.specs.OrderedKey.{OrderedKey, key_cmp, key_least}
use Rattle.am_record.specs.Plain.{Records, is_rising}
use Rattle.am_record.specs.Records.{records_code}
use Rattle.am_store_runs.specs.declared.record_order.Spot.{Spot}

-- the spot is that of a record, with the number of its key's first eight bytes
pub record IsSpot (records : Records) (s : Spot) : Type 0 where
  pub within : s.place < length records
  pub front : s.front ≡ key_front (get_or records s.place (key_least, [])).0

pub record AreSpots (records : Records) (spots : List Spot) : Type 0 where
  pub each : AllByRecursion (IsSpot records) spots

-- the records that the spots name, in the spots' order
abbrev pub records_at : Records → List Spot → Records
records_at records spots = map (λ (s : Spot). get_or records s.place (key_least, [])) spots

-- the spots, each after the key of its record
abbrev pub keyed_by : Records → List Spot → List (OrderedKey × Spot)
keyed_by records spots = map (λ (s : Spot). ((get_or records s.place (key_least, [])).0, s)) spots

abbrev pub keys_among : List (OrderedKey × Spot) → List OrderedKey
keys_among keyed = map (λ (k : OrderedKey × Spot). k.0) keyed

abbrev pub spots_among : List (OrderedKey × Spot) → List Spot
spots_among keyed = map (λ (k : OrderedKey × Spot). k.1) keyed

-- the spots after their keys, these in order
pub record IsByKey (records : Records) (spots : List Spot) (keyed : List (OrderedKey × Spot)) : Type 0 where
  pub same : IsPermutation (keyed_by records spots) keyed
  pub sorted : IsSortedByKey (λ (k : OrderedKey × Spot). k.0) key_cmp keyed

-- the records from one place up to another
abbrev pub piece : Records → ℕ → ℕ → Records
piece records from to = take (to - from) (drop from records)

-- each order is one of records, by their strictly rising keys
pub record IsOrder (records : Records) (spots : List Spot) : Type 0 where
  pub are : AreSpots records spots
  pub rising : is_rising (records_at records spots) ≡ true

-- the spots of the group stand after those that were there, by their records' strictly rising keys
pub record IsGroupAdded (records : Records) (before group after : List Spot) : Type 0 where
  pub order : List Spot
  pub all : after ≡ before ++ order
  pub is : IsOrder records order
  pub same : IsPermutation group order

pub record AreOrders (records : Records) (orders : List (Vec Spot Global)) : Type 0 where
  pub each : AllByRecursion (λ order. IsOrder records order.items) orders

-- the run of each order
abbrev pub runs_named : Records → List (Vec Spot Global) → List Records
runs_named records orders = map (λ (order : Vec Spot Global). records_at records order.items) orders

-- lists of records are stored as such
abbrev pub runs_code : Coded (List Records)
runs_code = coded_list records_code
