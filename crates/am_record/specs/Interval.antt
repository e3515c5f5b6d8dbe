-- Closed intervals of keys.
use Rattle.std.specs.Prelude.{◌≡◌, Bool, true, ◌&&◌, refl, replicate}
use Rattle.std.proofs.Common.{ap}
use Rattle.std.specs.Coded.{Coded, code_by, coded×}
use Rattle.std.specs.Ordering.{is_le}
use Rattle.am_record.specs.OrderedKey.{OrderedKey, key_cmp, key_code, key_of, key_cmp-itself}
use Rattle.am_record.specs.Limits.{max_key_bytes}

-- the keys from lo to hi, both included
pub record Interval : Type 0 where
  pub lo : OrderedKey
  pub hi : OrderedKey

-- whether a comes before b or is b
abbrev pub key_le : OrderedKey → OrderedKey → Bool
key_le a b = is_le (key_cmp a b)

-- the interval has its ends in order, so it has a key
abbrev pub IsOrdered : Interval → Type 0
IsOrdered r = key_le r.lo r.hi ≡ true

-- whether the key lies in the interval
abbrev pub within : Interval → OrderedKey → Bool
within r k = key_le r.lo k && key_le k r.hi

-- whether the inner interval lies in the outer one
abbrev pub encloses : Interval → Interval → Bool
encloses outer inner = key_le outer.lo inner.lo && key_le inner.hi outer.hi

-- whether the intervals have a key in common, where each has its ends in order
abbrev pub meets : Interval → Interval → Bool
meets a b = key_le a.lo b.hi && key_le b.lo a.hi

-- the interval of one key
abbrev pub point : OrderedKey → Interval
point k = record { lo = k; hi = k }

-- the longest key of the highest bytes
abbrev pub key_greatest : OrderedKey
key_greatest = key_of (replicate max_key_bytes 255)

-- the interval of all keys from one on
abbrev pub IsFrom : OrderedKey → Interval → Type 0
IsFrom key range = range ≡ record { lo = key; hi = key_greatest }

abbrev pub interval_code : Coded Interval
interval_code = code_by (OrderedKey × OrderedKey) (coded× key_code key_code) (λ r. (r.lo, r.hi))
    (λ p. record { lo = p.0; hi = p.1 }) (λ _. refl)

pub key_le-itself : (k : OrderedKey) → key_le k k ≡ true
key_le-itself k = ap is_le (key_cmp-itself k)

pub ruleset key_le_laws = (key_le-itself)
