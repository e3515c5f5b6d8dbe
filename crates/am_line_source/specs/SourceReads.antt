-- What is taken from a source.
use Rattle.std.specs.Prelude.{◌≡◌, ℕ, List, [], ◌∷◌, ◌++◌, max}

-- `comes` says of a source which bytes may still come. From `old` these bytes were taken, and `new` was left:
-- whatever may come from `new`, came from `old` after them.
abbrev pub Took : {S : Type 0} → (S → List ℕ → Type 0) → S → List ℕ → S → Type 0
Took comes old taken new = (rest : List ℕ) → comes new rest → comes old (taken ++ rest)

-- the bytes that may come where some were taken and not used yet
abbrev pub Ahead : {S : Type 0} → (S → List ℕ → Type 0) → List ℕ → S → List ℕ → Type 0
Ahead comes waiting source bytes = (rest : List ℕ) × comes source rest × (bytes ≡ waiting ++ rest)

-- the same of a source in front of which taken bytes are waiting
abbrev pub TookAhead : {S : Type 0} → (S → List ℕ → Type 0) → List ℕ → S → List ℕ → List ℕ → S → Type 0
TookAhead comes before old taken waiting new = (rest : List ℕ) → Ahead comes waiting new rest →
    Ahead comes before old (taken ++ rest)

-- nothing is waiting, and nothing may come
abbrev pub IsAtEnd : {S : Type 0} → (S → List ℕ → Type 0) → List ℕ → S → Type 0
IsAtEnd comes waiting source = (waiting ≡ []) × comes source []

-- What a source over memory still does: the bytes that it has left, the sizes of the pieces to come, how many calls
-- there are up to the one that fails (0: none does), and how often it has failed.
pub record Incoming : Type 0 where
  pub rest : List ℕ
  pub sizes : List ℕ
  pub calls_to_failure : ℕ
  pub failures : ℕ

-- these are the bytes that it has left
abbrev pub IsRest : Incoming → List ℕ → Type 0
IsRest source bytes = bytes ≡ source.rest

-- how long the next piece may be: one byte where the sizes have ended, or the size is 0
abbrev pub next_size : List ℕ → ℕ
next_size [] = 1
next_size (size ∷ sizes) = max size 1
