-- When locks cover one another, when they conflict, and which locks a transaction holds after it asked for one more.
use Rattle.std.specs.Prelude.{List, [], ◌∷◌, ◌++◌, Bool, true, false, cond, not, ◌&&◌, ◌||◌}
use Rattle.std.specs.List.{list_any}
use Rattle.am_record.specs.Interval.{encloses, meets}
use Rattle.am_record.specs.declared.lock.Mode.{Mode}
use Rattle.am_record.specs.declared.lock.Mode.TheVariants.{Shared, Exclusive}
use Rattle.am_record.specs.declared.lock.Lock.{Lock}

abbrev pub is_exclusive : Mode → Bool
is_exclusive Shared = false
is_exclusive Exclusive = true

-- whether two transactions may hold these modes on one key
abbrev pub are_compatible : Mode → Mode → Bool
are_compatible Shared Shared = true
are_compatible Shared Exclusive = false
are_compatible Exclusive Shared = false
are_compatible Exclusive Exclusive = false

-- whether a transaction's own lock makes the asked one needless
abbrev pub covers : Lock → Lock → Bool
covers own asked = encloses own.range asked.range && (is_exclusive own.mode || not (is_exclusive asked.mode))

-- whether two locks of different transactions conflict: they have a key in common, and their modes are not compatible
abbrev pub conflicts : Lock → Lock → Bool
conflicts a b = meets a.range b.range && not (are_compatible a.mode b.mode)

-- whether one of a transaction's own locks covers the asked one
abbrev pub is_covered : List Lock → Lock → Bool
is_covered own asked = list_any (λ l. covers l asked) own

-- a transaction's locks after it was granted one more: it stands at the end, unless an earlier one covers it
abbrev pub with_lock : List Lock → Lock → List Lock
with_lock own asked = cond (is_covered own asked) own (own ++ asked ∷ [])
