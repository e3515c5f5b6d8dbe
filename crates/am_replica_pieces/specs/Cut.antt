-- The parts of an entry's text, none of which has more than so many bytes: pieces, and the head at last.
use Rattle.std.specs.Prelude.{ℕ, zero, suc, ◌-◌, ◌*◌, ◌/◌, ◌==◌, List, [], ◌++◌, cond, length, take, drop}
use Rattle.am_replica_log.specs.declared.event.Part.{Part}
use Rattle.am_replica_log.specs.declared.event.Part.TheVariants.{Piece, Head}

-- how many pieces come before the head; the text may have no bytes
abbrev pub before_head : ℕ → List ℕ → ℕ
before_head most text = (length text - 1) / most

abbrev pub part_at : ℕ → List ℕ → ℕ → Part
part_at most text number = cond (number == before_head most text) Head (Piece number)

abbrev pub bytes_at : ℕ → List ℕ → ℕ → List ℕ
bytes_at most text number = take most (drop (number * most) text)

-- so many parts, one after another
abbrev pub first_parts : ℕ → List ℕ → ℕ → List ℕ
first_parts most text zero = []
first_parts most text (suc n) = first_parts most text n ++ bytes_at most text n
