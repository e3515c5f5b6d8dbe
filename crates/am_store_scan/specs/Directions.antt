-- The directions in which a range is read: by rising key, or back, from the highest key down.
use Rattle.std.specs.Prelude.{◌≡◌, Bool, true, false, reverse}
use Rattle.std.specs.declared.cmp.Ordering.{Ordering}
use Rattle.std.specs.Ordering.{is_le, ordering_reverse}
use Rattle.std.specs.Cmp.{IsTotalOrder, back_total}
use Rattle.am_record.specs.OrderedKey.{OrderedKey, key_cmp, key_cmp-total}
use Rattle.am_record.specs.Interval.{Interval, within}
use Rattle.am_record.specs.Plain.{Records}

-- how two keys stand that compare so by the order of keys
abbrev pub order_in : Bool → Ordering → Ordering
order_in false o = o
order_in true o = ordering_reverse o

-- the order in which keys are read
abbrev pub cmp_in : Bool → OrderedKey → OrderedKey → Ordering
cmp_in false a b = key_cmp a b
cmp_in true a b = key_cmp b a

pub cmp_in-total : (back : Bool) → IsTotalOrder (cmp_in back)
cmp_in-total false = key_cmp-total
cmp_in-total true = back_total key_cmp-total

-- whether a is read before b or is b
abbrev pub le_in : Bool → OrderedKey → OrderedKey → Bool
le_in back a b = is_le (cmp_in back a b)

-- rows that rise by key, in the order in which they are read
abbrev pub as_read : Bool → Records → Records
as_read false rows = rows
as_read true rows = reverse rows

-- the keys of the range that are read from that one on
abbrev pub rest_of : Bool → Interval → OrderedKey → Interval
rest_of false range key = record { lo = key; hi = range.hi }
rest_of true range key = record { lo = range.lo; hi = key }

-- the key of the range that is read first
abbrev pub begin_of : Bool → Interval → OrderedKey
begin_of false range = range.lo
begin_of true range = range.hi

-- the piece has keys of the range alone, and the same one is read first
pub record BeginsAs (back : Bool) (range piece : Interval) : Type 0 where
  pub inside : (key : OrderedKey) → within piece key ≡ true → within range key ≡ true
  pub begin : begin_of back piece ≡ begin_of back range
