-- Digits of base 16 in lanes of a byte each.
use Rattle.std.specs.Prelude.{ℕ, ◌+◌, ◌-◌, ◌%◌, nat_lt, if◌then◌else◌}

-- a byte with another taken off, from 256 on where it is less
abbrev pub byte_less : ℕ → ℕ → ℕ
byte_less a b = (a + (256 - b)) % 256

-- the number of a digit, and 255 of any other byte
abbrev pub lane_number : ℕ → ℕ
lane_number c = if nat_lt (byte_less c 48) 10 then byte_less c 48 else if nat_lt (byte_less c 97) 6
    then (byte_less c 97 + 10) % 256 else 255
