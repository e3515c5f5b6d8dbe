-- Entries of a range, by where a walk over them has come.
use Rattle.std.specs.Prelude.{◌≡◌, ℕ, nat_le, ◌==◌, List, Bool, true, ◌&&◌}
use Rattle.std.specs.List.{AllByRecursion}
use Rattle.std.specs.Ordering.{is_lt, is_le}
use Rattle.am_record.specs.Interval.{Interval, key_le, within}
use Rattle.am_record.specs.EntryOrder.{Place, place_of, place_cmp}
use Rattle.am_record.specs.declared.entry.Entry.{Entry}

-- in the range, in that partition
abbrev pub in_part : ℕ → Interval → Entry → Bool
in_part part range e = (e.part == part) && within range e.key

-- in the range, in that partition or a later one
abbrev pub in_parts_from : ℕ → Interval → Entry → Bool
in_parts_from part range e = nat_le part e.part && within range e.key

-- in the range, and after x by partition and key
abbrev pub later : Interval → Entry → Entry → Bool
later range x e = is_lt (place_cmp (place_of x) (place_of e)) && within range e.key

-- at or above the place
abbrev pub is_from : Place → Entry → Bool
is_from p e = is_le (place_cmp p (place_of e))

-- a ghost in the range, at or above the place
abbrev pub ghost_from : Interval → Place → Entry → Bool
ghost_from range p e = e.is_ghost && (is_from p e && within range e.key)

-- a walk over the range goes on at a place after x, and so comes to each entry of the range after x
pub record GoesOnAt (es : List Entry) (range : Interval) (x : Entry) (next : Place) : Type 0 where
  pub above : is_lt (place_cmp (place_of x) next) ≡ true
  pub in_range : key_le range.lo next.1 ≡ true
  pub ahead : AllByRecursion (λ e. later range x e ≡ true → is_from next e ≡ true) es
