-- What is kept of a request's words.
use Rattle.std.specs.Prelude.{ℕ, List, map, length, nat_le, if◌then◌else◌}
use Rattle.am_resp_source.specs.declared.heard.HeardWord.{HeardWord}
use Rattle.am_resp_source.specs.declared.heard.HeardWord.TheVariants.{Kept, Long}

-- the word, or of one that has more bytes than the most its length alone
abbrev pub heard_word : ℕ → List ℕ → HeardWord
heard_word most word = if nat_le (length word) most then Kept word else Long (length word)

abbrev pub heard_words : ℕ → List (List ℕ) → List HeardWord
heard_words most words = map (heard_word most) words
