-- A beginning of a number's text is the text of a number that is no greater.
use Rattle.std.proofs.Common.{◌≡◌, ◌≢◌, ℕ, ◌+◌, ◌*◌, ◌≤◌, true, not, ◌||◌, eqb, List, [], ◌∷◌, ◌++◌, length, map, refl}
use Rattle.std.proofs.Common.{ap, ◌∙◌}
use Rattle.std.proofs.Common.{arith}
use Rattle.std.specs.Char.{is_ascii_digit, digit_value}
use Rattle.std.specs.List.{list_all}
use Rattle.std.specs.Int.Digits.{number_from_digits, number_from_digits_after}
use Rattle.std.proofs.lemmas.Bool.{and_parts, and_from}
use Rattle.std.proofs.lemmas.Bool.Decides.{nat_tests}
use Rattle.std.proofs.lemmas.List.{length-append}
use Rattle.std.proofs.lemmas.Int.Digits.{digits_value_is, number_after_ge}
use Rattle.am_line_text.specs.Numbers.{numeral, is_numeral, numeral_value}
use Rattle.am_line_text.proofs.Numerals.{is_numeral-numeral, numeral_value-numeral}

front_digits : (a b : List ℕ) → list_all is_ascii_digit (a ++ b) ≡ true → list_all is_ascii_digit a ≡ true
front_digits [] b h = refl
front_digits (c ∷ a) b h =
    let parts = and_parts (is_ascii_digit c) (list_all is_ascii_digit (a ++ b)) h in
    and_from (is_ascii_digit c) (list_all is_ascii_digit a) parts.0 (front_digits a b parts.1)

front_numeral : (c : ℕ) (cs b : List ℕ) → is_numeral (c ∷ (cs ++ b)) ≡ true → is_numeral (c ∷ cs) ≡ true
front_numeral c cs b h =
    let parts = and_parts (list_all is_ascii_digit (c ∷ (cs ++ b))) (not (eqb c 48) || eqb (length (cs ++ b)) 0) h in
    let n = length-append cs b in
    and_from (list_all is_ascii_digit (c ∷ cs)) (not (eqb c 48) || eqb (length cs) 0)
    (front_digits (c ∷ cs) b parts.0) (grind (arith, nat_tests, parts.1, n))

after_append : (k : ℕ) (xs ys : List ℕ) → number_from_digits_after 10 k (xs ++ ys) ≡
    number_from_digits_after 10 (number_from_digits_after 10 k xs) ys
after_append k [] ys = refl
after_append k (x ∷ xs) ys = after_append (k * 10 + x) xs ys

map_append : (a b : List ℕ) → map digit_value (a ++ b) ≡ map digit_value a ++ map digit_value b
map_append [] b = refl
map_append (c ∷ a) b = ap (λ xs. digit_value c ∷ xs) (map_append a b)

front_value : (a b : List ℕ) → numeral_value a ≤ numeral_value (a ++ b)
front_value a b =
    let here : numeral_value a ≡ number_from_digits 10 (map digit_value a) = digits_value_is 10 a in
    let all : numeral_value (a ++ b) ≡ number_from_digits_after 10 (number_from_digits 10 (map digit_value a))
    (map digit_value b) =
    digits_value_is 10 (a ++ b) ∙ ap (number_from_digits 10) (map_append a b) ∙
    after_append 0 (map digit_value a) (map digit_value b) in
    let more = number_after_ge 10 (number_from_digits 10 (map digit_value a)) (map digit_value b) (omega arith) in
    omega (arith, here, all, more)

pub front_of_numeral : (a b : List ℕ) (n : ℕ) → a ≢ [] → a ++ b ≡ numeral n → (is_numeral a ≡ true) ×
    (numeral_value a ≤ n)
front_of_numeral [] b n p e = absurd (p refl)
front_of_numeral (c ∷ cs) b n p e =
    let value = ap numeral_value e ∙ numeral_value-numeral n in
    let front = front_value (c ∷ cs) b in
    (front_numeral c cs b (ap is_numeral e ∙ is_numeral-numeral n), omega (arith, value, front))
