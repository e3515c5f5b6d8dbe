-- What a request may have, each in one place.
use Rattle.std.specs.Prelude.{ℕ}

-- the most words of a request
abbrev pub max_words : ℕ
max_words = 131073

-- the most bytes of a word
abbrev pub max_word_bytes : ℕ
max_word_bytes = 536870912
