-- Bytes, cut into lines.
use Rattle.std.specs.Prelude.{◌≡◌, ◌≢◌, ℕ, List, [], ◌∷◌, ◌++◌, length, take, map, Bool, true, false, ◌==◌, nat_lt}
use Rattle.std.specs.Prelude.{Option, Some, None, MatchBool, cond}
use Rattle.am_line_source.specs.SourceReads.{TookAhead, IsAtEnd}

-- a byte goes onto the front of the first line
abbrev pub onto : ℕ → List (List ℕ) → List (List ℕ)
onto c [] = (c ∷ []) ∷ []
onto c (line ∷ lines) = (c ∷ line) ∷ lines

-- what stands between the LFs; after the last one only where it isn't empty
abbrev pub pieces_of : List ℕ → List (List ℕ)
pieces_of [] = []
pieces_of (c ∷ bytes) = cond (c == 10) ([] ∷ pieces_of bytes) (onto c (pieces_of bytes))

-- without one CR at the end
abbrev pub without_cr : List ℕ → List ℕ
without_cr [] = []
without_cr (c ∷ []) = cond (c == 13) [] (c ∷ [])
without_cr (c ∷ d ∷ bytes) = c ∷ without_cr (d ∷ bytes)

-- a line, or None where it has more than 4,096 bytes; a CR at its end counts
abbrev pub line_of : List ℕ → Option (List ℕ)
line_of piece = cond (nat_lt 4096 (length piece)) None (Some (without_cr piece))

-- the lines of the input
abbrev pub lines_of : List ℕ → List (Option (List ℕ))
lines_of bytes = map line_of (pieces_of bytes)

-- no LF stands in the bytes
abbrev pub HasNoLf : List ℕ → Type 0
HasNoLf [] = Unit {0}
HasNoLf (c ∷ bytes) = (c ≢ 10) × HasNoLf bytes

-- whether one does
abbrev pub has_lf : List ℕ → Bool
has_lf [] = false
has_lf (c ∷ bytes) = cond (c == 10) true (has_lf bytes)

-- The bytes up to the first LF, or all where no LF is among them, went onto a line, of which 4,097 bytes are kept. What
-- stands after the LF waits on.
abbrev pub UsedPiece : Bool → List ℕ → List ℕ → List ℕ → List ℕ → Type 0
UsedPiece true waiting line rest new = (piece : List ℕ) × HasNoLf piece × (waiting ≡ piece ++ 10 ∷ rest) ×
    (new ≡ take 4097 (line ++ piece))
UsedPiece false waiting line rest new = HasNoLf waiting × (rest ≡ []) × (new ≡ take 4097 (line ++ waiting))

-- The bytes begin with a whole line, its LF with it, and these stand after it.
abbrev pub CutsLine : List ℕ → Option (List ℕ) → List ℕ → Type 0
CutsLine bytes line rest = (taken : List ℕ) × (bytes ≡ taken ++ rest)
    × ((more : List ℕ) → lines_of (taken ++ more) ≡ line ∷ lines_of more)

-- One line was taken, ended by its LF, or else by the end of the input.
abbrev pub TookLine : {S : Type 0} → (S → List ℕ → Type 0) → List ℕ → S → Option (List ℕ) → Bool → List ℕ → S → Type 0
TookLine comes before old line ended waiting new = (taken : List ℕ) × TookAhead comes before old taken waiting new
    × MatchBool ended ((more : List ℕ) → lines_of (taken ++ more) ≡ line ∷ lines_of more)
    ((lines_of taken ≡ line ∷ []) × IsAtEnd comes waiting new)

-- Bytes of a line were taken that isn't ended yet.
abbrev pub TookPart : {S : Type 0} → (S → List ℕ → Type 0) → List ℕ → S → List ℕ → S → Type 0
TookPart comes before old waiting new = (taken : List ℕ) × HasNoLf taken × TookAhead comes before old taken waiting new

-- Bytes of a line were taken that isn't ended yet, and its front is kept.
abbrev pub IsReading : {S : Type 0} → (S → List ℕ → Type 0) → List ℕ → S → List ℕ → List ℕ → S → Type 0
IsReading comes before old line waiting new = (taken : List ℕ) × HasNoLf taken × (line ≡ take 4097 taken) ×
    TookAhead comes before old taken waiting new
