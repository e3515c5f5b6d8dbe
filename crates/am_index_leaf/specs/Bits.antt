-- A word of bits: its lowest bit belongs to the first entry.
use Rattle.std.specs.Prelude.{◌≡◌, ℕ, zero, suc, ◌+◌, ◌*◌, ◌/◌, ◌%◌, ◌<◌, ◌≤◌, Bool, true, false, ◌==◌}

-- the bit at the index
abbrev pub has_bit : ℕ → ℕ → Bool
has_bit m zero = m % 2 == 1
has_bit m (suc i) = has_bit (m / 2) i

-- the index is that of the first set bit from another one on
pub record IsNextBit (m from i : ℕ) : Type 0 where
  pub reached : from ≤ i
  pub is_set : has_bit m i ≡ true
  pub none_before : (k : ℕ) → from ≤ k → k < i → has_bit m k ≡ false

-- a bit as a number
abbrev pub bit : Bool → ℕ
bit true = 1
bit false = 0

-- the word with one more bit at the index, those from there on one up
abbrev pub inserted_bit : ℕ → ℕ → Bool → ℕ
inserted_bit m zero b = bit b + 2 * m
inserted_bit m (suc i) b = m % 2 + 2 * inserted_bit (m / 2) i b

-- the word without the bit at the index, those above one down
abbrev pub removed_bit : ℕ → ℕ → ℕ
removed_bit m zero = m / 2
removed_bit m (suc i) = m % 2 + 2 * removed_bit (m / 2) i

-- the word with that bit at the index
abbrev pub changed_bit : ℕ → ℕ → Bool → ℕ
changed_bit m zero b = bit b + 2 * (m / 2)
changed_bit m (suc i) b = m % 2 + 2 * changed_bit (m / 2) i b
