-- The beginning of a key as a number.
use Rattle.std.specs.Prelude.{ℕ, zero, suc, ◌+◌, ◌-◌, ◌*◌, ◌^◌, nat_lt, List, [], ◌∷◌, if◌then◌else◌}
use Rattle.am_record.specs.OrderedKey.{OrderedKey, bytes_of}

-- the number of the first n bytes, the first of them the highest, with zeros after where there are fewer. What is no
-- byte, which no key has, counts as 255 with 255s after it, so that a lower number is a lower list among all lists
unfoldable pub front_of : ℕ → List ℕ → ℕ
front_of zero bytes = 0
front_of (suc n) [] = 0
front_of (suc n) (b ∷ bytes) = if nat_lt b 256 then b * 256 ^ n + front_of n bytes else 256 ^ suc n - 1

-- the number of a key's first eight bytes
unfoldable pub key_front : OrderedKey → ℕ
key_front k = front_of 8 (bytes_of k)
