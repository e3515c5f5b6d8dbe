-- Lines of HTTP: its requests, and the header that names a host.
use Rattle.std.specs.Prelude.{ℕ, nat_le, nat_eq, Bool, true, false, not, ◌&&◌, ◌||◌, ◌==◌, List, [], ◌∷◌, length, codes}
use Rattle.std.specs.Prelude.{take, drop, ◌-◌, ◌≡◌, ◌≢◌, ◌++◌, All}
use Rattle.std.specs.Char.{is_ascii_digit, is_ascii_whitespace, to_ascii_lowercase}
use Rattle.std.specs.List.{list_any, list_all, prefix_len, suffix_len, starts_with, after_last, before_last}

-- whether a text begins with these small letters, in any case
abbrev pub begins_in_any_case : List ℕ → List ℕ → Bool
begins_in_any_case text [] = true
begins_in_any_case [] (letter ∷ letters) = false
begins_in_any_case (byte ∷ text) (letter ∷ letters) =
    (to_ascii_lowercase byte == letter) && begins_in_any_case text letters

-- without the blanks at its end: spaces, TABs and the like
abbrev pub without_blanks : List ℕ → List ℕ
without_blanks text = take (length text - suffix_len is_ascii_whitespace text) text

-- and without those before it
abbrev pub trimmed : List ℕ → List ℕ
trimmed text = without_blanks (drop (prefix_len is_ascii_whitespace text) text)

-- whether a text has two words or more: a blank stands between two of its words
abbrev pub has_two_words : List ℕ → Bool
has_two_words text = list_any is_ascii_whitespace (trimmed text)

abbrev pub is_digit_or_dot : ℕ → Bool
is_digit_or_dot byte = is_ascii_digit byte || byte == 46

-- a digit, and more digits and dots
abbrev pub is_number : List ℕ → Bool
is_number [] = false
is_number (first ∷ rest) = is_ascii_digit first && list_all is_digit_or_dot rest

-- whether a word is a version of HTTP, as HTTP/1.1 and http/2
abbrev pub is_version : List ℕ → Bool
is_version word = begins_in_any_case word (codes "http/") && is_number (drop 5 word)

-- how those lines of the protocol begin that may end in a version: INS k v, REP k v, SET k v and LOCK m lo hi
abbrev pub own_fronts : List (List ℕ)
own_fronts = codes "INS " ∷ codes "REP " ∷ codes "SET " ∷ codes "LOCK S " ∷ codes "LOCK X " ∷ []

-- whether a text, which no blank ends, has two words or more, and a version after them
abbrev pub ends_request : List ℕ → Bool
ends_request text =
    is_version (after_last is_ascii_whitespace text) && has_two_words (before_last is_ascii_whitespace text)

-- A request of HTTP: a method, what it is asked of, and a version after them.
abbrev pub is_request_line : List ℕ → Bool
is_request_line line =
    ends_request (without_blanks line) && not (list_any (starts_with nat_eq line) own_fronts)

-- the header that every request of a browser has
abbrev pub is_host_line : List ℕ → Bool
is_host_line line = begins_in_any_case line (codes "host:")

-- A line of HTTP. One of more than 4,096 bytes, which is told to be too long, is none that asks.
unfoldable pub is_of_http : List ℕ → Bool
is_of_http line = is_host_line line || (nat_le (length line) 4096 && is_request_line line)

-- a word has a byte or more, and none of them is blank
abbrev pub IsWord : List ℕ → Type 0
IsWord word = (word ≢ []) × All (λ byte. is_ascii_whitespace byte ≡ false) word

-- a request as browsers write it, before its LF
abbrev pub http_request : List ℕ → List ℕ → List ℕ
http_request method target = (method ++ 32 ∷ target) ++ (codes " HTTP/1.1" ++ 13 ∷ [])

-- such a request is seen to be one whatever its method and its target, unless it begins as those lines do
abbrev pub RequestsAreSeen : Type 0
RequestsAreSeen = (method target : List ℕ) → IsWord method → IsWord target →
    list_any (starts_with nat_eq (http_request method target)) own_fronts ≡ false →
    is_request_line (http_request method target) ≡ true
