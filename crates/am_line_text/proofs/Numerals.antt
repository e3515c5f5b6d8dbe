-- Each number has one text, and each text of a number is that of its value.
use Rattle.std.proofs.Common.{◌≡◌, ◌≢◌, ℕ, ◌+◌, ◌*◌, ◌/◌, ◌%◌, ◌^◌, ◌<◌, true, not, ◌||◌, eqb, List, [], ◌∷◌, ◌++◌}
use Rattle.std.proofs.Common.{length, get_or, map, refl, sym, ap, ◌∙◌, inl, inr, arith, rules, ltb, Some, None, Result}
use Rattle.std.proofs.Common.{◌≤◌, ◌-◌, take, Ok, Err, append_assoc, append-nil, decimal}
use Rattle.std.specs.Char.{is_ascii_digit, digit_value}
use Rattle.std.specs.List.{list_all}
use Rattle.std.specs.Result.{OkIff, result_ok}
use Rattle.std.specs.Int.Digits.{digits_of, number_from_digits, number_from_digits_after, AllBelowBase}
use Rattle.std.specs.Str.Parse.{digits_value, AllDigits, ParsesUnsigned}
use Rattle.std.proofs.lemmas.Bool.{and_parts, and_from, or_left, cond-false, cond-true, ne_eqb, cases_eq}
use Rattle.std.proofs.lemmas.Bool.{false_from_ne_true, lt-ltb, ltb-true}
use Rattle.std.proofs.lemmas.Bool.Decides.{nat_tests}
use Rattle.std.proofs.lemmas.Int.Digits.{digits_value_is, digits_value_more, digits_of_step, all_below_base_digits_of}
use Rattle.std.proofs.lemmas.Grind.{common_steps}
use Rattle.std.proofs.lemmas.List.Sums.{AllPass-from_list_all, list_all-from_AllPass}
use Rattle.std.proofs.lemmas.Int.Digits.{all_below_base_from_digits, first_digits_of, number_digits_of, number_after_ge}
use Rattle.std.proofs.lemmas.Fmt.{decimal-digits_of, decimal_digit}
use Rattle.std.proofs.lemmas.Str.{digit_value_digit}
use Rattle.std.proofs.lemmas.Str.Parse.{IsNumeralModel, numerals_by_value, parse_digits, digit_from_value}
use Rattle.std.proofs.lemmas.Str.Parse.{digits_value_short}
use Rattle.am_line_text.specs.Fields.{has_no_space}
use Rattle.am_line_text.proofs.Spaces.{list_all-weaker}
use Rattle.am_line_text.specs.Numbers.{numeral, is_numeral, numeral_value, number_for}

pub are_digits : IsNumeralModel (λ ds. list_all is_ascii_digit ds ≡ true) (digits_value 10)
are_digits = numerals_by_value _ (search rules)

-- more digits after those of a number
digits_of_after : (n : ℕ) (ds : List ℕ) → 0 < n → AllBelowBase 10 ds → digits_of 10 (number_from_digits_after 10 n ds) ≡
    digits_of 10 n ++ ds
digits_of_after n [] p h = sym (append-nil (digits_of 10 n))
digits_of_after n (d ∷ ds) p h =
    let small : d < 10 = h.0 in
    let front : (n * 10 + d) / 10 ≡ n = omega arith in
    let last : (n * 10 + d) % 10 ≡ d = omega arith in
    let step : digits_of 10 (n * 10 + d) ≡ digits_of 10 ((n * 10 + d) / 10) ++ ((n * 10 + d) % 10 ∷ []) =
    digits_of_step 10 (n * 10 + d) (omega arith) (omega arith) in
    let here : digits_of 10 (n * 10 + d) ≡ digits_of 10 n ++ (d ∷ []) = step ∙
    ap (λ m. digits_of 10 m ++ ((n * 10 + d) % 10 ∷ [])) front ∙ ap (λ m. digits_of 10 n ++ (m ∷ [])) last in
    digits_of_after (n * 10 + d) ds (omega arith) h.1 ∙ ap (λ xs. xs ++ ds) here ∙
    append_assoc (digits_of 10 n) (d ∷ []) ds

one_digit : (d : ℕ) → 0 < d → d < 10 → digits_of 10 d ≡ d ∷ []
one_digit d p small =
    let front : d / 10 ≡ 0 = omega arith in
    let last : d % 10 ≡ d = omega arith in
    digits_of_step 10 d (omega arith) p ∙ ap (λ m. digits_of 10 m ++ (d % 10 ∷ [])) front ∙ ap (λ m. m ∷ []) last

-- digits with no zero before them are those of their number
digits_of-number : (d : ℕ) (ds : List ℕ) → 0 < d → d < 10 → AllBelowBase 10 ds →
    digits_of 10 (number_from_digits 10 (d ∷ ds)) ≡ d ∷ ds
digits_of-number d ds p small h =
    let first : 0 * 10 + d ≡ d = omega arith in
    ap (λ n. digits_of 10 (number_from_digits_after 10 n ds)) first ∙ digits_of_after d ds p h ∙
    ap (λ xs. xs ++ ds) (one_digit d p small)

number-positive : (d : ℕ) (ds : List ℕ) → 0 < d → number_from_digits 10 (d ∷ ds) ≢ 0
number-positive d ds p e = absurd (omega (arith, number_after_ge 10 (0 * 10 + d) ds (omega arith)))

value_of_glyph : (d : ℕ) → d < 10 → digit_value (48 + d) ≡ d
value_of_glyph d small =
    let h : digit_value (48 + d) + 48 ≡ 48 + d = digit_value_digit (48 + d) (omega arith, omega arith) in
    omega arith

values_of_glyphs : (ds : List ℕ) → AllBelowBase 10 ds → map digit_value (map (λ d. 48 + d) ds) ≡ ds
values_of_glyphs [] h = refl
values_of_glyphs (d ∷ ds) h = ap (λ x. x ∷ map digit_value (map (λ d. 48 + d) ds)) (value_of_glyph d h.0) ∙
    ap (λ xs. d ∷ xs) (values_of_glyphs ds h.1)

glyph_of_value : (c : ℕ) → digit_value c < 10 → 48 + digit_value c ≡ c
glyph_of_value c small =
    let h : digit_value c + 48 ≡ c = digit_value_digit c (digit_from_value c small) in
    omega arith

glyphs_of_values : (cs : List ℕ) → AllDigits 10 cs → map (λ d. 48 + d) (map digit_value cs) ≡ cs
glyphs_of_values [] h = refl
glyphs_of_values (c ∷ cs) h = ap (λ x. x ∷ map (λ d. 48 + d) (map digit_value cs)) (glyph_of_value c h.0) ∙
    ap (λ xs. c ∷ xs) (glyphs_of_values cs h.1)

glyphs_are_digits : (ds : List ℕ) → AllBelowBase 10 ds → AllDigits 10 (map (λ d. 48 + d) ds)
glyphs_are_digits [] h = tt
glyphs_are_digits (d ∷ ds) h =
    let e = value_of_glyph d h.0 in
    let small : d < 10 = h.0 in
    (omega arith, glyphs_are_digits ds h.1)

numeral-positive : (n : ℕ) → n ≢ 0 → numeral n ≡ map (λ d. 48 + d) (digits_of 10 n)
numeral-positive n p = cond-false (eqb n 0) (48 ∷ []) (map (λ d. 48 + d) (digits_of 10 n)) (ne_eqb n 0 p)

-- the value of the digits of a text whose first is no 0
positive_text : (c : ℕ) (cs : List ℕ) → AllDigits 10 (c ∷ cs) → c ≢ 48 → numeral (numeral_value (c ∷ cs)) ≡ c ∷ cs
positive_text c cs h p =
    let glyph = glyph_of_value c h.0 in
    let ds = map digit_value cs in
    let first : 0 < digit_value c = elim (cases_eq (digit_value c) 0) [
      | inl z ↦ absurd (p (omega arith))
      | inr z ↦ omega arith
    ] in
    let value : numeral_value (c ∷ cs) ≡ number_from_digits 10 (digit_value c ∷ ds) = digits_value_is 10 (c ∷ cs) in
    let below : AllBelowBase 10 ds = all_below_base_from_digits 10 cs h.1 in
    ap numeral value
    ∙ numeral-positive (number_from_digits 10 (digit_value c ∷ ds)) (number-positive (digit_value c) ds first)
    ∙ ap (λ xs. map (λ d. 48 + d) xs) (digits_of-number (digit_value c) ds first h.0 below)
    ∙ glyphs_of_values (c ∷ cs) h

zero_text : (c : ℕ) (cs : List ℕ) → c ≡ 48 → length cs ≡ 0 → numeral (numeral_value (c ∷ cs)) ≡ c ∷ cs
zero_text c [] e z = ap (λ d. numeral (numeral_value (d ∷ []))) e ∙ ap (λ d. d ∷ []) (sym e)
zero_text c (d ∷ ds) e z = absurd (omega arith)

-- the text of a number is that of its value
pub numeral-numeral_value : (text : List ℕ) → is_numeral text ≡ true → numeral (numeral_value text) ≡ text
numeral-numeral_value [] h = cc
numeral-numeral_value (c ∷ cs) h =
    let parts = and_parts (list_all is_ascii_digit (c ∷ cs)) (not (eqb c 48) || eqb (length cs) 0) h in
    let digits = are_digits.to (c ∷ cs) parts.0 in
    elim (cases_eq c 48) [
      | inl e ↦ zero_text c cs e (grind (arith, nat_tests, parts.1))
      | inr e ↦ positive_text c cs digits e
    ]

digits_below : (n : ℕ) → AllBelowBase 10 (digits_of 10 n)
digits_below n = all_below_base_digits_of 10 n (omega arith)

-- and the value of a number's text is the number
pub numeral_value-numeral : (n : ℕ) → numeral_value (numeral n) ≡ n
numeral_value-numeral n = elim (cases_eq n 0) [
  | inl e ↦ ap (λ m. numeral_value (numeral m)) e ∙ sym e
  | inr p ↦
      ap numeral_value (numeral-positive n p)
      ∙ digits_value_is 10 (map (λ d. 48 + d) (digits_of 10 n))
      ∙ ap (number_from_digits 10) (values_of_glyphs (digits_of 10 n) (digits_below n))
      ∙ number_digits_of 10 n (omega arith)
]

first_glyph : (ds : List ℕ) → AllBelowBase 10 ds → 0 < get_or ds 0 0 → is_numeral (map (λ d. 48 + d) ds) ≡ true
first_glyph [] h p = absurd (omega arith)
first_glyph (d ∷ ds) h p =
    and_from (list_all is_ascii_digit (map (λ e. 48 + e) (d ∷ ds)))
    (not (eqb (48 + d) 48) || eqb (length (map (λ e. 48 + e) ds)) 0)
    (are_digits.from (map (λ e. 48 + e) (d ∷ ds)) (glyphs_are_digits (d ∷ ds) h))
    (or_left (not (eqb (48 + d) 48)) (eqb (length (map (λ e. 48 + e) ds)) 0)
    (ap not (ne_eqb (48 + d) 48 (λ e. absurd (omega arith)))))

pub is_numeral-numeral : (n : ℕ) → is_numeral (numeral n) ≡ true
is_numeral-numeral n = elim (cases_eq n 0) [
  | inl e ↦ ap (λ m. is_numeral (numeral m)) e
  | inr p ↦ ap is_numeral (numeral-positive n p) ∙ first_glyph (digits_of 10 n) (digits_below n)
      (first_digits_of 10 n (omega arith) (omega arith))
]

-- what `{}` prints of a number is its text
pub numeral-decimal : (n : ℕ) → n < 2 ^ 64 → numeral n ≡ decimal n
numeral-decimal n small = elim (cases_eq n 0) [
  | inl e ↦ ap numeral e ∙ sym (decimal_digit 0 (omega arith)) ∙ ap decimal (sym e)
  | inr p ↦ numeral-positive n p ∙ sym (decimal-digits_of n (omega arith) small)
]

pub is_numeral-digits : (text : List ℕ) → is_numeral text ≡ true → list_all is_ascii_digit text ≡ true
is_numeral-digits [] h = cc
is_numeral-digits (c ∷ cs) h = (and_parts (list_all is_ascii_digit (c ∷ cs)) (not (eqb c 48) || eqb (length cs) 0) h).0

-- digits whose first is no 0
pub is_numeral-no_zero : (text : List ℕ) (c : ℕ) (cs : List ℕ) → text ≡ c ∷ cs → list_all is_ascii_digit text ≡ true →
    c ≢ 48 → not (eqb c 48) ≡ is_numeral text
is_numeral-no_zero text c cs e digits p =
    let first : not (eqb c 48) ≡ true = ap not (ne_eqb c 48 p) in
    let all : list_all is_ascii_digit (c ∷ cs) ≡ true = ap (list_all is_ascii_digit) (sym e) ∙ digits in
    first
    ∙ sym (and_from (list_all is_ascii_digit (c ∷ cs)) (not (eqb c 48) || eqb (length cs) 0) all
    (or_left (not (eqb c 48)) (eqb (length cs) 0) first))
    ∙ ap is_numeral (sym e)

in_range : {E : Type 0} (r : Result ℕ E) (v len : ℕ) → OkIff r ((0 < len) × (v < 2 ^ 64)) v → 0 < len →
    result_ok r ≡ number_for v
in_range (Ok x) v len h p = ap Some h.1 ∙ sym (cond-true (ltb v (2 ^ 64)) (Some v) None (lt-ltb v (2 ^ 64) h.0.1))
in_range (Err e) v len h p = sym (cond-false (ltb v (2 ^ 64)) (Some v) None
    (false_from_ne_true (ltb v (2 ^ 64)) (λ t. h (p, ltb-true v (2 ^ 64) t))))

is_numeral-some : (text : List ℕ) → is_numeral text ≡ true → 0 < length text
is_numeral-some [] h = cc
is_numeral-some (c ∷ cs) h = omega arith

-- what `parse` reads of the text of a number
pub parsed : {E : Type 0} (text : List ℕ) (r : Result ℕ E) → ParsesUnsigned 64 10 text r → is_numeral text ≡ true →
    result_ok r ≡ number_for (numeral_value text)
parsed text r h numeral =
    in_range r (numeral_value text) (length text) (parse_digits are_digits 64 text r h (is_numeral-digits text numeral))
    (is_numeral-some text numeral)

digit-no_space : (b : ℕ) → is_ascii_digit b ≡ true → not (eqb b 32) ≡ true
digit-no_space b h = grind (arith, nat_tests)

pub numeral-no_space : (n : ℕ) → has_no_space (numeral n) ≡ true
numeral-no_space n = list_all-weaker is_ascii_digit (λ b. not (eqb b 32)) digit-no_space (numeral n)
    (is_numeral-digits (numeral n) (is_numeral-numeral n))

-- a few digits, read one after another
module _ (ds : List ℕ) (i : ℕ) (all : list_all is_ascii_digit ds ≡ true) (few : length ds ≤ 19) (inside : i < length ds)
  where
    one_digit_is : is_ascii_digit (get_or ds i 0) ≡ true
    one_digit_is = AllPass-from_list_all is_ascii_digit ds all i 0 inside

    are_bounds : (48 ≤ get_or ds i 0) × (get_or ds i 0 ≤ 57)
    are_bounds = (grind (arith, nat_tests, one_digit_is), grind (arith, nat_tests, one_digit_is))

    pub next_digit : numeral_value (take (i + 1) ds) ≡ 10 * numeral_value (take i ds) + (get_or ds i 0 - 48)
    next_digit = omega (arith, digits_value_more 10 ds i inside, digit_value_digit (get_or ds i 0) are_bounds)

    pub from_zero : 48 ≤ get_or ds i 0
    from_zero = are_bounds.0

    pub stays_short : numeral_value (take (i + 1) ds) < 10 ^ 19
    stays_short = digits_value_short are_digits (take (i + 1) ds) 19
        (list_all-from_AllPass is_ascii_digit (take (i + 1) ds) (λ j d h.
        let below : j < i + 1 = grind (arith, common_steps) in
        let same : get_or (take (i + 1) ds) j d ≡ get_or ds j d = grind (arith, common_steps) in
        ap is_ascii_digit same ∙ AllPass-from_list_all is_ascii_digit ds all j d (omega arith)))
        (grind (arith, common_steps))

-- so their number has 64 bits
pub short_fits : (ds : List ℕ) → list_all is_ascii_digit ds ≡ true → length ds ≤ 19 → number_for (numeral_value ds) ≡
    Some (numeral_value ds)
short_fits ds all few =
    let small : numeral_value ds < 10 ^ 19 = digits_value_short are_digits ds 19 all few in
    let below : numeral_value ds < 2 ^ 64 = omega (arith, small) in
    cond-true (ltb (numeral_value ds) (2 ^ 64)) (Some (numeral_value ds)) None
    (lt-ltb (numeral_value ds) (2 ^ 64) below)
