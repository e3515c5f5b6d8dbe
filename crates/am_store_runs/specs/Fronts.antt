-- Fronts, the numbers of keys' first eight bytes, that several keys have.
use Rattle.std.specs.Prelude.{◌≡◌, ◌≤◌, ◌<◌, ◌↔◌, ℕ, List, true, Bool, map, filter, nat_eq, count_by, Vec}
use Rattle.std.specs.List.{AllPairs, flat_map, list_any}
use Rattle.std.specs.declared.alloc.Global.{Global}
use Rattle.am_record.specs.KeyFront.{key_front}
use Rattle.am_record.specs.OrderedKey.{OrderedKey}
use Rattle.am_store_runs.specs.declared.record_order.Spot.{Spot}

-- how often the number stands among the numbers
abbrev pub times_of : ℕ → List ℕ → ℕ
times_of n ns = count_by (λ m. nat_eq n m) ns

-- whether the number stands among the numbers
abbrev pub is_member : ℕ → List ℕ → Bool
is_member n ns = list_any (λ m. nat_eq n m) ns

-- these are the numbers that stand twice or more among the numbers, each once and rising
pub record AreShared (ns shared : List ℕ) : Type 0 where
  pub rising : AllPairs ◌<◌ shared
  pub twice : (n : ℕ) → (is_member n shared ≡ true) ↔ (2 ≤ times_of n ns)

-- the fronts of the orders' spots, one order after another
abbrev pub fronts_in : List (Vec Spot Global) → List ℕ
fronts_in orders = flat_map (λ (o : Vec Spot Global). map (λ (s : Spot). s.front) o.items) orders

-- the keys whose front is one of these
abbrev pub with_fronts : List ℕ → List OrderedKey → List OrderedKey
with_fronts fronts keys = filter (λ k. is_member (key_front k) fronts) keys
