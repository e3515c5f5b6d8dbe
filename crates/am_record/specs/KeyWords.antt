-- Bytes read as words of eight.
use Rattle.std.specs.Prelude.{ℕ, ◌+◌, ◌<◌, List, [], ◌∷◌, get_or}
use Rattle.std.specs.Int.{w64, from_be_bytes}

-- the number of the eight bytes from i on, the first of them the highest
abbrev pub word_at : List ℕ → ℕ → ℕ
word_at bs i = from_be_bytes w64 (get_or bs i 0 ∷ get_or bs (i + 1) 0 ∷ get_or bs (i + 2) 0 ∷ get_or bs (i + 3) 0
    ∷ get_or bs (i + 4) 0 ∷ get_or bs (i + 5) 0 ∷ get_or bs (i + 6) 0 ∷ get_or bs (i + 7) 0 ∷ [])

-- the words of 32 bytes
abbrev pub key_words : List ℕ → List ℕ
key_words bs = word_at bs 0 ∷ word_at bs 8 ∷ word_at bs 16 ∷ word_at bs 24 ∷ []

abbrev pub AreBytes : List ℕ → Type 0
AreBytes bs = (k : ℕ) → get_or bs k 0 < 256
