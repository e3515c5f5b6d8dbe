-- The texts of requests: what a client prints for a list of words.
use Rattle.std.specs.Prelude.{◌≡◌, ℕ, ◌≤◌, List, [], ◌∷◌, ◌++◌, length}
use Rattle.std.specs.List.{AllByRecursion}
use Rattle.am_resp_text.specs.Limits.{max_words, max_word_bytes}
use Rattle.am_resp_text.specs.Counts.{count_line, bulk_text}

abbrev pub words_text : List (List ℕ) → List ℕ
words_text [] = []
words_text (word ∷ words) = bulk_text word ++ words_text words

abbrev pub request_text : List (List ℕ) → List ℕ
request_text words = count_line 42 (length words) ++ words_text words

-- no word is longer than one may be
abbrev pub HasShortWords : List (List ℕ) → Type 0
HasShortWords words = AllByRecursion (λ word. length word ≤ max_word_bytes) words

-- nor are there more of them
abbrev pub IsRequest : List (List ℕ) → Type 0
IsRequest words = (length words ≤ max_words) × HasShortWords words

-- The kinds of texts that a request is made of: a count up to a greatest one, a word, so many words, all.
abbrev pub IsCountLine : ℕ → ℕ → List ℕ → Type 0
IsCountLine mark most text = (n : ℕ) × (n ≤ most) × (text ≡ count_line mark n)

abbrev pub IsWordText : List ℕ → Type 0
IsWordText text = (word : List ℕ) × (length word ≤ max_word_bytes) × (text ≡ bulk_text word)

abbrev pub AreWordsText : ℕ → List ℕ → Type 0
AreWordsText count text = (words : List (List ℕ)) × (length words ≡ count) × HasShortWords words
    × (text ≡ words_text words)

abbrev pub IsRequestText : List ℕ → Type 0
IsRequestText text = (words : List (List ℕ)) × IsRequest words × (text ≡ request_text words)
