-- What a filter says of a number. It is seen as its words.
use Rattle.std.specs.Prelude.{ℕ, ◌+◌, ◌*◌, ◌/◌, ◌%◌, ◌^◌, ◌==◌, bit_and, bit_or}
use Rattle.std.specs.Prelude.{List, length, slice_index, slice_set, replicate, Bool}

-- the word of a number, by its upper 32 bits, in a table of so many
abbrev pub place : ℕ → ℕ → ℕ
place count number = number / 2 ^ 32 % 2 ^ 32 * count / 2 ^ 32

-- one bit of a word, by the lowest 6 bits
abbrev pub mark : ℕ → ℕ
mark n = 2 ^ (n % 64)

-- the five bits of a number in its word, by its lower 30 bits
unfoldable pub marks : ℕ → ℕ
marks n = bit_or (bit_or (bit_or (bit_or (mark n) (mark (n / 2 ^ 6))) (mark (n / 2 ^ 12))) (mark (n / 2 ^ 18)))
    (mark (n / 2 ^ 24))

-- the word has all of these bits
abbrev pub has_all : ℕ → ℕ → Bool
has_all word bits = bit_and word bits == bits

-- the number is covered: its word has all of its bits
abbrev pub is_marked : List ℕ → ℕ → Bool
is_marked words n = has_all (slice_index words (place (length words) n)) (marks n)

-- the words once the number was entered too
abbrev pub marked : List ℕ → ℕ → List ℕ
marked words n =
    let at = place (length words) n in slice_set words at (bit_or (slice_index words at) (marks n))

-- the words of a filter for so many numbers, four a word, before any was entered
abbrev pub empty_for : ℕ → List ℕ
empty_for numbers = replicate (numbers / 4 + 1) 0
