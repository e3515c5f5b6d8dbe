-- What becomes of the entry at an index.
use Rattle.std.specs.Prelude.{ℕ, zero, suc, Bool, List, [], ◌∷◌}
use Rattle.am_record.specs.declared.entry.Entry.{Entry}

-- the list with that value and bit at the index
abbrev pub set_at : List Entry → ℕ → List ℕ → Bool → List Entry
set_at [] i value is_ghost = []
set_at (e ∷ es) zero value is_ghost = record e { value = value; is_ghost = is_ghost } ∷ es
set_at (e ∷ es) (suc i) value is_ghost = e ∷ set_at es i value is_ghost
