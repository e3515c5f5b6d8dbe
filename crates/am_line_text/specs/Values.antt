-- Values as lines have them.
use Rattle.std.specs.Prelude.{ℕ, ◌<◌, ◌≤◌, Bool, not, ◌&&◌, ◌==◌, nat_le, List, length, All, Option, Some, None}
use Rattle.std.specs.Prelude.{if◌then◌else◌}
use Rattle.std.specs.Char.{is_ascii_graphic}
use Rattle.std.specs.List.{list_all}
use Rattle.am_record.specs.Limits.{max_value_bytes}

-- a byte that a value may have on a line: one with a glyph, the space not among them
abbrev pub IsVisible : ℕ → Type 0
IsVisible byte = (0x21 ≤ byte) × (byte ≤ 0x7E)

-- one byte at least, each of them visible
abbrev pub IsValueText : List ℕ → Type 0
IsValueText text = (0 < length text) × All IsVisible text

-- the same as a test
abbrev pub is_value_text : List ℕ → Bool
is_value_text text = not (length text == 0) && list_all is_ascii_graphic text

-- the value of the bytes, where they are in range: 64 at most
abbrev pub value_for : List ℕ → Option (List ℕ)
value_for bytes = if nat_le (length bytes) max_value_bytes then Some bytes else None
