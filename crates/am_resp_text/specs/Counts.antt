-- Numbers and bytes as both sides print them.
use Rattle.std.specs.Prelude.{◌≢◌, ℕ, ◌+◌, ℤ, pos, negsuc, List, [], ◌∷◌, ◌++◌, length, codes, Option, None}
use Rattle.std.specs.Prelude.{if◌then◌else◌}
use Rattle.am_line_text.specs.Numbers.{numeral, is_numeral, numeral_value, number_for}

abbrev pub crlf : List ℕ
crlf = 13 ∷ 10 ∷ []

-- a mark, and a number without sign or leading zero
abbrev pub count_line : ℕ → ℕ → List ℕ
count_line mark n = mark ∷ numeral n ++ crlf

-- a number that may have a sign
abbrev pub signed_numeral : ℤ → List ℕ
signed_numeral (pos n) = numeral n
signed_numeral (negsuc n) = codes "-" ++ numeral (n + 1)

-- any bytes, behind their count
abbrev pub bulk_text : List ℕ → List ℕ
bulk_text bytes = count_line 36 (length bytes) ++ (bytes ++ crlf)

-- no CR is among the bytes
abbrev pub HasNoCr : List ℕ → Type 0
HasNoCr [] = Unit {0}
HasNoCr (c ∷ cs) = (c ≢ 13) × HasNoCr cs

-- the number whose text this is, where it has 64 bits at most
abbrev pub text_number : List ℕ → Option ℕ
text_number text = if is_numeral text then number_for (numeral_value text) else None
