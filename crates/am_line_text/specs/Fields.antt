-- The fields of a line.
use Rattle.std.specs.Prelude.{◌≡◌, ℕ, ◌==◌, List, [], ◌∷◌, Bool, not, Option, Some, None}
use Rattle.std.specs.List.{slice_split, list_all}

-- its parts between spaces
abbrev pub line_fields : List ℕ → List (List ℕ)
line_fields line = slice_split (λ b. b == 32) line

-- those of what stands after a space, where one does
abbrev pub fields_left : Option (List ℕ) → List (List ℕ)
fields_left None = []
fields_left (Some rest) = line_fields rest

-- there is a field
abbrev pub HasField : List (List ℕ) → Type 0
HasField fields = (f : List ℕ) × (fs : List (List ℕ)) × (fields ≡ f ∷ fs)

-- no byte of the word is a space, so that it may stand in a field
abbrev pub has_no_space : List ℕ → Bool
has_no_space word = list_all (λ b. not (b == 32)) word
