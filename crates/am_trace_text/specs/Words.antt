-- Keys and values as a stored trace writes them.
use Rattle.std.specs.Prelude.{ℕ, ◌+◌, ◌/◌, ◌%◌, nat_lt, List, [], ◌∷◌, decimal, if◌then◌else◌}
use Rattle.std.specs.Int.{w64, from_be_bytes}
use Rattle.am_record.specs.OrderedKey.{OrderedKey, bytes_of}
use Rattle.am_line_text.specs.Records.{record_field}
use Rattle.am_trace_text.specs.declared.version.Version.{Version}
use Rattle.am_trace_text.specs.declared.version.Version.TheVariants.{One}

-- a digit of base 16: 0 to 9, a to f
abbrev pub hex_digit : ℕ → ℕ
hex_digit d = if nat_lt d 10 then 48 + d else 87 + d

-- two digits for each byte, the higher first
abbrev pub hex_digits : List ℕ → List ℕ
hex_digits [] = []
hex_digits (b ∷ bytes) = hex_digit (b / 16) ∷ hex_digit (b % 16) ∷ hex_digits bytes

-- the letter h, and then the digits
abbrev pub hex : List ℕ → List ℕ
hex bytes = 104 ∷ hex_digits bytes

-- a key: in version 1 the number whose eight bytes it is
abbrev pub key_word : Version → OrderedKey → List ℕ
key_word One key = decimal (from_be_bytes w64 (bytes_of key))
key_word _ key = hex (bytes_of key)

-- a record: k=v
abbrev pub record_word : Version → OrderedKey × List ℕ → List ℕ
record_word v r = record_field (key_word v r.0, hex r.1)
