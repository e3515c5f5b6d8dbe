-- Owners of locks in a list by rising number, whatever else is known of them: who stands in the way of a lock, and who
-- holds a key.
use Rattle.std.specs.Prelude.{ℕ, ◌==◌, List, [], ◌∷◌, cond, not, ◌&&◌, Option, Some, None}
use Rattle.am_record.specs.OrderedKey.{OrderedKey}
use Rattle.am_record.specs.Asks.{clashes, owns}
use Rattle.am_record.specs.declared.lock.Lock.{Lock}

-- the least of the others that hold a lock in conflict with the asked one
abbrev pub blocker_among : {A : Type 0} → (A → ℕ) → (A → List Lock) → List A → ℕ → Option Lock → Option ℕ
blocker_among number locks [] t asked = None
blocker_among number locks (x ∷ xs) t asked = cond (not (number x == t) && clashes asked (locks x)) (Some (number x))
    (blocker_among number locks xs t asked)

-- who holds an exclusive lock on the key
abbrev pub holder_among : {A : Type 0} → (A → ℕ) → (A → List Lock) → List A → OrderedKey → Option ℕ
holder_among number locks [] key = None
holder_among number locks (x ∷ xs) key = cond (owns (locks x) key) (Some (number x))
    (holder_among number locks xs key)
