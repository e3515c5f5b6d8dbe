-- Numbers as lines have them: decimal digits, no sign, no leading zero, of any length.
use Rattle.std.specs.Prelude.{◌≡◌, ℕ, ◌+◌, ◌^◌, Bool, true, false, not, ◌&&◌, ◌||◌, ◌==◌, nat_lt, Option, Some, None}
use Rattle.std.specs.Prelude.{List, [], ◌∷◌, length, map, if◌then◌else◌}
use Rattle.std.specs.Char.{is_ascii_digit}
use Rattle.std.specs.List.{list_all}
use Rattle.std.specs.Str.Parse.{digits_value}
use Rattle.std.specs.Int.Digits.{digits_of}

-- the one text of a number. (`decimal` of std is the same up to 64 digits, where it ends.)
abbrev pub numeral : ℕ → List ℕ
numeral n = if n == 0 then 48 ∷ [] else map (λ d. 48 + d) (digits_of 10 n)

-- whether the text is that of a number: digits, and no 0 before others
abbrev pub is_numeral : List ℕ → Bool
is_numeral [] = false
is_numeral (c ∷ cs) = list_all is_ascii_digit (c ∷ cs) && (not (c == 48) || length cs == 0)

-- the number whose text it is
abbrev pub numeral_value : List ℕ → ℕ
numeral_value text = digits_value 10 text

-- the number, where it has 64 bits at most
abbrev pub number_for : ℕ → Option ℕ
number_for n = if nat_lt n (2 ^ 64) then Some n else None

-- the text has digits alone, and is read as the number
pub record IsNumeralOf (text : List ℕ) (n : ℕ) : Type 0 where
  pub digits : list_all is_ascii_digit text ≡ true
  pub is_one : is_numeral text ≡ true
  pub value : numeral_value text ≡ n
