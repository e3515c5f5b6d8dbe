-- Marks in a list that stands with the newest item first: each is the number of items at it, the newest mark first.
use Rattle.std.specs.Prelude.{ℕ, ◌-◌, List, [], ◌∷◌, length, take, drop, Bool, true, false}

-- the items that came since there were so many, and those that were there
abbrev pub since : {X : Type 0} → ℕ → List X → List X
since count items = take (length items - count) items

abbrev pub until : {X : Type 0} → ℕ → List X → List X
until count items = drop (length items - count) items

-- the items since the newest mark, none where no mark stands, and all the others
abbrev pub since_mark : {X : Type 0} → List ℕ → List X → List X
since_mark [] items = []
since_mark (mark ∷ marks) items = since mark items

abbrev pub until_mark : {X : Type 0} → List ℕ → List X → List X
until_mark [] items = items
until_mark (mark ∷ marks) items = until mark items

-- the marks without the newest
abbrev pub older : List ℕ → List ℕ
older [] = []
older (mark ∷ marks) = marks

-- whether a mark stands
abbrev pub has_mark : List ℕ → Bool
has_mark [] = false
has_mark (mark ∷ marks) = true
