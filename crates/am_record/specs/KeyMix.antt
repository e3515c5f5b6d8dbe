-- A number for each key, which looks drawn.
use Rattle.std.specs.Prelude.{ℕ, ◌*◌, ◌/◌, ◌%◌, ◌^◌, bit_xor, List, get_or, length}
use Rattle.am_record.specs.KeyFields.{padded}
use Rattle.am_record.specs.KeyWords.{key_words}
use Rattle.am_record.specs.OrderedKey.{OrderedKey, bytes_of}

-- a number with a word mixed into it
unfoldable pub mix_in : ℕ → ℕ → ℕ
mix_in h w = bit_xor (bit_xor h w * 0xBF58_476D_1CE4_E5B9 % 2 ^ 64)
    (bit_xor h w * 0xBF58_476D_1CE4_E5B9 % 2 ^ 64 / 2 ^ 32)

-- of 32 bytes and a length
unfoldable pub bytes_mix : List ℕ → ℕ → ℕ
bytes_mix bs n = mix_in (mix_in (mix_in (mix_in n (get_or (key_words bs) 0 0)) (get_or (key_words bs) 1 0))
    (get_or (key_words bs) 2 0)) (get_or (key_words bs) 3 0)

unfoldable pub key_mix : OrderedKey → ℕ
key_mix k = bytes_mix (padded (bytes_of k)) (length (bytes_of k))
