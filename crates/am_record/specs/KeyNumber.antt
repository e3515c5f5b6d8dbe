-- A number for each key, which looks drawn to whoever doesn't know the hash key.
use Rattle.std.specs.Prelude.{ℕ, ◌*◌, ◌/◌, ◌%◌, ◌^◌, bit_xor, List, get_or, length, map}
use Rattle.am_record.specs.KeyFields.{padded}
use Rattle.am_record.specs.KeyWords.{key_words}
use Rattle.am_record.specs.OrderedKey.{OrderedKey, bytes_of}
use Rattle.am_record.specs.Plain.{Records}
use Rattle.am_record.specs.declared.hash_key.HashKey.{HashKey}

-- the low half of a product of two words, with the high half over it
unfoldable pub folded : ℕ → ℕ → ℕ
folded a b = bit_xor (a * b % 2 ^ 64) (a * b / 2 ^ 64)

-- a number with a word folded into it
unfoldable pub fold_in : HashKey → ℕ → ℕ → ℕ
fold_in hash h w = folded (bit_xor h hash.first) (bit_xor w hash.second)

-- of 32 bytes and a length: their words and it, one after another
unfoldable pub bytes_number : HashKey → List ℕ → ℕ → ℕ
bytes_number hash bs n =
    fold_in hash (fold_in hash (fold_in hash (fold_in hash (get_or (key_words bs) 0 0) (get_or (key_words bs) 1 0))
    (get_or (key_words bs) 2 0)) (get_or (key_words bs) 3 0)) n

unfoldable pub key_number : HashKey → OrderedKey → ℕ
key_number hash k = bytes_number hash (padded (bytes_of k)) (length (bytes_of k))

-- the numbers of the records' keys
abbrev pub numbers_of : HashKey → Records → List ℕ
numbers_of hash rs = map (λ r. key_number hash r.0) rs
