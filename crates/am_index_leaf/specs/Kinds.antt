use Rattle.std.specs.Prelude.{ℕ, map}
use Rattle.am_index_leaf.specs.Columns.{ColumnOf}
use Rattle.am_index_leaf.specs.declared.column.Kind.{Kind}
use Rattle.am_index_leaf.specs.declared.column.Kind.TheVariants.{Short, Wide}

-- the elements of either block
abbrev pub column : {S X : Type 0} → (S → X) → ℕ → Kind X S → ColumnOf X
column long most (Short shorts) = record { items = map long shorts; room = 16 }
column long most (Wide elements) = record { items = elements; room = most }
