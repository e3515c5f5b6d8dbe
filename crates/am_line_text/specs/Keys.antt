-- Keys as lines name them and as replies print them. All texts of keys stand here; the forms of lines and replies say
-- only where a key is named.
use Rattle.std.specs.Prelude.{◌≢◌, ℕ, ◌<◌, Bool, not, ◌&&◌, ◌==◌, nat_le, List, length, All, Option, Some, None}
use Rattle.std.specs.Prelude.{if◌then◌else◌}
use Rattle.std.specs.Char.{is_ascii_graphic}
use Rattle.std.specs.List.{list_all}
use Rattle.am_record.specs.Limits.{max_key_bytes}
use Rattle.am_record.specs.OrderedKey.{OrderedKey, key_of, bytes_of}
use Rattle.am_line_text.specs.Values.{IsVisible}

-- a byte that a key may have on a line: a visible one, but no =
abbrev pub IsKeyByte : ℕ → Type 0
IsKeyByte byte = IsVisible byte × (byte ≢ 0x3D)

-- one byte at least, each of them such a one
abbrev pub IsKeyText : List ℕ → Type 0
IsKeyText text = (0 < length text) × All IsKeyByte text

-- the same as tests
abbrev pub is_key_byte : ℕ → Bool
is_key_byte byte = is_ascii_graphic byte && not (byte == 0x3D)

abbrev pub is_key_text : List ℕ → Bool
is_key_text text = not (length text == 0) && list_all is_key_byte text

-- the key of the text, where it is in range: 32 bytes at most
abbrev pub key_for : List ℕ → Option OrderedKey
key_for text = if nat_le (length text) max_key_bytes then Some (key_of text) else None

-- the text that a reply has for a key
abbrev pub printed_key : OrderedKey → List ℕ
printed_key key = bytes_of key
