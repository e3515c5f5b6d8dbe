-- The texts of numbers, values, keys and records.
use Rattle.std.proofs.Common.{◌≡◌, ℕ, zero, suc, ◌+◌, ◌*◌, ◌/◌, ◌%◌, ◌^◌, ◌<◌, ◌≤◌, ltb, leb, eqb, not, ◌||◌, true}
use Rattle.std.proofs.Common.{false, List, [], ◌∷◌, ◌++◌, length, get_or, take, drop, Some, None, refl, sym, ap, ◌∙◌}
use Rattle.std.proofs.Common.{subst, arith, option_map, decimal, inl, inr, ◌&&◌, Bool, map}
use Rattle.std.specs.Prelude.{option_and_then}
use Rattle.std.specs.Option.{option_zip}
use Rattle.std.specs.Int.{w64, from_be_bytes, to_be_bytes}
use Rattle.std.specs.List.{AllByRecursion, list_all, before_first, after_first, position_or_len}
use Rattle.std.specs.Char.{is_ascii_digit}
use Rattle.std.proofs.lemmas.Bool.{cond-true, ltb-true, lt-ltb, and_parts, and_from, cases_lt}
use Rattle.std.proofs.lemmas.Bool.Decides.{nat_tests}
use Rattle.std.proofs.Math.Seq.{take-append_seam, drop-append-add}
use Rattle.std.proofs.Math.ListN.{drop_of_length-le}
use Rattle.std.proofs.lemmas.List.Sums.{split_at_first, passes_at_first}
use Rattle.am_trace_text.proofs.CutLemmas.{has_no-append}
use Rattle.std.proofs.lemmas.Nat.{be_bytes_8, from_be_bytes-to_be_bytes_8}
use Rattle.am_record.specs.Records.{Records}
use Rattle.am_record.specs.OrderedKey.{OrderedKey, key_of, bytes_of, number_key, key_of-bytes_of, bytes_of-key_of}
use Rattle.am_record.proofs.Outcomes.{mapped, gate}
use Rattle.am_line_text.specs.Numbers.{is_numeral, numeral_value, number_for, IsNumeralOf}
use Rattle.am_line_text.specs.Keys.{key_for}
use Rattle.am_line_text.specs.Values.{value_for}
use Rattle.am_line_text.specs.Records.{is_equals}
use Rattle.am_trace_text.specs.Cuts.{has_no}
use Rattle.am_trace_text.specs.Words.{hex_digit, hex_digits, hex, key_word, record_word}
use Rattle.am_trace_text.specs.Bounds.{IsByteList, IsNumber, IsKey, IsValue, IsRecord, AreRecords}
use Rattle.am_trace_text.specs.FieldReadings.{number_in, run_for, run_in, digit_in, byte_in, with_byte, bytes_for}
use Rattle.am_trace_text.specs.FieldReadings.{value_for_digits, value_in, key_in, record_in}
use Rattle.am_trace_text.specs.declared.version.Version.{Version}
use Rattle.am_trace_text.specs.declared.version.Version.TheVariants.{One}
use Rattle.am_trace_text.proofs.IsText.{IsText, zipped, zip_of, chained, same_some}

-- ---- digits of base 16

digit_cases : (c : ℕ) (d : ℕ) → digit_in c ≡ Some d → (d < 16) × (c ≡ hex_digit d)
digit_cases c d e = grind (arith, nat_tests, e)

digit_there : (d : ℕ) → d < 16 → digit_in (hex_digit d) ≡ Some d
digit_there d h = grind (arith, nat_tests, h)

byte_there : (b : ℕ) → b < 256 → byte_in (hex_digit (b / 16)) (hex_digit (b % 16)) ≡ Some b
byte_there b h =
    let high : b / 16 < 16 = omega (arith, h) in
    let low : b % 16 < 16 = omega (arith, h) in
    let whole : 16 * (b / 16) + b % 16 ≡ b = omega (arith, h) in
    ap (option_map (λ (p : ℕ × ℕ). 16 * p.0 + p.1))
    (zip_of (digit_in (hex_digit (b / 16))) (digit_in (hex_digit (b % 16))) (b / 16) (b % 16)
    (digit_there (b / 16) high) (digit_there (b % 16) low))
    ∙ ap (λ n. Some n) whole

pub byte_back : (x y b : ℕ) → byte_in x y ≡ Some b → (b < 256) × (x ≡ hex_digit (b / 16)) × (y ≡ hex_digit (b % 16))
byte_back x y b e =
    let m = mapped (λ (p : ℕ × ℕ). 16 * p.0 + p.1) (option_zip (digit_in x) (digit_in y)) b e in
    let z = zipped (digit_in x) (digit_in y) m.0 m.1 in
    let high = digit_cases x m.0.0 z.0 in
    let low = digit_cases y m.0.1 z.1 in
    let lt1 : m.0.0 < 16 = high.0 in
    let lt2 : m.0.1 < 16 = low.0 in
    let whole : 16 * m.0.0 + m.0.1 ≡ b = m.2 in
    let first : m.0.0 ≡ b / 16 = omega (arith, lt1, lt2, whole) in
    let second : m.0.1 ≡ b % 16 = omega (arith, lt1, lt2, whole) in
    let small : b < 256 = omega (arith, lt1, lt2, whole) in
    (small, high.1 ∙ ap hex_digit first, low.1 ∙ ap hex_digit second)

bytes_there : (bytes : List ℕ) → IsByteList bytes → bytes_for (hex_digits bytes) ≡ Some bytes
bytes_there [] h = refl
bytes_there (b ∷ bytes) h =
    ap (option_map with_byte) (zip_of (byte_in (hex_digit (b / 16)) (hex_digit (b % 16))) (bytes_for (hex_digits bytes))
    b bytes (byte_there b h.0) (bytes_there bytes h.1))

bytes_back : (digits bytes : List ℕ) → bytes_for digits ≡ Some bytes → IsByteList bytes × (digits ≡ hex_digits bytes)
bytes_back [] bytes e = let same : [] ≡ bytes = cc in (subst IsByteList same tt, ap hex_digits same)
bytes_back (x ∷ []) bytes e = cc
bytes_back (x ∷ y ∷ digits) bytes e =
    let m = mapped with_byte (option_zip (byte_in x y) (bytes_for digits)) bytes e in
    let z = zipped (byte_in x y) (bytes_for digits) m.0 m.1 in
    let first = byte_back x y m.0.0 z.0 in
    let more = bytes_back digits m.0.1 z.1 in
    let bytes_are : IsByteList (m.0.0 ∷ m.0.1) = (first.0, more.0) in
    let text : x ∷ y ∷ digits ≡ hex_digits (m.0.0 ∷ m.0.1) = ap (λ c. c ∷ y ∷ digits) first.1 ∙
    ap (λ c. hex_digit (m.0.0 / 16) ∷ c ∷ digits) first.2 ∙
    ap (λ rest. hex_digit (m.0.0 / 16) ∷ hex_digit (m.0.0 % 16) ∷ rest) more.1 in
    (subst IsByteList m.2 bytes_are, text ∙ ap hex_digits m.2)

-- ---- values

short_value : (bytes w : List ℕ) → value_for bytes ≡ Some w → (length w ≤ 64) × (bytes ≡ w)
short_value bytes w e =
    let g = gate (leb (length bytes) 64) (Some bytes) w e in
    let same : bytes ≡ w = same_some bytes w g.1 in
    (subst (λ (x : List ℕ). length x ≤ 64) same (grind (arith, nat_tests, g.0)), same)

value_there : (w : List ℕ) → IsValue w → value_in (hex w) ≡ Some w
value_there w h =
    let short : length w ≤ 64 = h.1 in
    ap (option_and_then value_for) (bytes_there w h.0) ∙ cond-true (leb (length w) 64) (Some w) None
    (grind (arith, nat_tests, short))

value_back : (f w : List ℕ) → value_in f ≡ Some w → IsValue w × (f ≡ hex w)
value_back [] w e = cc
value_back (letter ∷ digits) w e =
    let g = gate (eqb letter 104) (value_for_digits digits) w e in
    let first : letter ≡ 104 = grind (arith, nat_tests, g.0) in
    let m = chained value_for (bytes_for digits) w g.1 in
    let s = short_value m.0 w m.2 in
    let read = bytes_back digits w (m.1 ∙ ap (λ x. Some x) s.1) in
    ((read.0, s.0), ap (λ c. c ∷ digits) first ∙ ap (λ ds. 104 ∷ ds) read.1)

pub value_text : IsText value_in hex IsValue
value_text = record { there = value_there; back = value_back }

-- ---- numbers, by what is known of their texts

pub record NumberLaws : Type 0 where
  pub number : (text : List ℕ) (n : ℕ) → is_numeral text ≡ true → number_for (numeral_value text) ≡ Some n →
      text ≡ decimal n
  pub decimal : (n : ℕ) → n < 2 ^ 64 → IsNumeralOf (decimal n) n

small_number : (v n : ℕ) → number_for v ≡ Some n → n < 2 ^ 64
small_number v n e =
    let g = gate (ltb v (2 ^ 64)) (Some v) n e in
    let same : v ≡ n = same_some v n g.1 in
    subst (λ x. x < 2 ^ 64) same (ltb-true v (2 ^ 64) g.0)

number_is : (n : ℕ) → n < 2 ^ 64 → number_for n ≡ Some n
number_is n h = cond-true (ltb n (2 ^ 64)) (Some n) None (lt-ltb n (2 ^ 64) h)

run_is : (n : ℕ) → n < 2 ^ 32 → run_for n ≡ Some n
run_is n h = cond-true (ltb n (2 ^ 32)) (Some n) None (lt-ltb n (2 ^ 32) h)

-- ---- keys of numbers

by_index : (bytes : List ℕ) → IsByteList bytes → (i : ℕ) → get_or bytes i 0 < 256
by_index [] h i = omega arith
by_index (b ∷ bytes) h zero = h.0
by_index (b ∷ bytes) h (suc i) = by_index bytes h.1 i

number_of_bytes : (bytes : List ℕ) → IsByteList bytes → length bytes ≡ 8 → from_be_bytes w64 bytes < 2 ^ 64
number_of_bytes bytes h e =
    let fits = by_index bytes h in
    omega (arith, fits 0, fits 1, fits 2, fits 3, fits 4, fits 5, fits 6, fits 7)

key_of_number : (k : OrderedKey) → IsByteList (bytes_of k) → length (bytes_of k) ≡ 8 →
    number_key (from_be_bytes w64 (bytes_of k)) ≡ k
unfolding number_key
key_of_number k h e = ap key_of (be_bytes_8 (bytes_of k) (from_be_bytes w64 (bytes_of k)) e (by_index (bytes_of k) h)
    refl) ∙ key_of-bytes_of k

bytes_of_number : (n : ℕ) → bytes_of (number_key n) ≡ to_be_bytes w64 n
unfolding number_key
bytes_of_number n = bytes_of-key_of (to_be_bytes w64 n)

are_bytes_of_number : (n : ℕ) → IsByteList (to_be_bytes w64 n) × (length (to_be_bytes w64 n) ≡ 8)
are_bytes_of_number n = (
  (
    omega arith,
    (omega arith, (omega arith, (omega arith, (omega arith, (omega arith, (omega arith, (omega arith, tt))))))),
  ),
  refl,
)

number_key_is : (n : ℕ) → IsNumber n → IsKey One (number_key n)
number_key_is n h = subst (λ (x : List ℕ). IsByteList x × (length x ≡ 8)) (sym (bytes_of_number n))
    (are_bytes_of_number n)

number_of_key : (n : ℕ) → IsNumber n → from_be_bytes w64 (bytes_of (number_key n)) ≡ n
number_of_key n h = ap (from_be_bytes w64) (bytes_of_number n) ∙ from_be_bytes-to_be_bytes_8 n h

module _ (laws : NumberLaws) where
  number_there : (n : ℕ) → IsNumber n → number_in (decimal n) ≡ Some n
  number_there n h =
      let k = laws.decimal n h in
      cond-true (is_numeral (decimal n)) (number_for (numeral_value (decimal n))) None k.is_one ∙
      ap number_for k.value ∙ number_is n h

  number_back : (f : List ℕ) (n : ℕ) → number_in f ≡ Some n → IsNumber n × (f ≡ decimal n)
  number_back f n e =
      let g = gate (is_numeral f) (number_for (numeral_value f)) n e in
      (small_number (numeral_value f) n g.1, laws.number f n g.0 g.1)

  pub number_text : IsText number_in (λ n. decimal n) IsNumber
  number_text = record { there = number_there; back = number_back }

  run_there : (n : ℕ) → n < 2 ^ 32 → run_in (decimal n) ≡ Some n
  run_there n h = ap (option_and_then run_for) (number_there n (omega (arith, h))) ∙ run_is n h

  run_back : (f : List ℕ) (n : ℕ) → run_in f ≡ Some n → (n < 2 ^ 32) × (f ≡ decimal n)
  run_back f n e =
      let m = chained run_for (number_in f) n e in
      let g = gate (ltb m.0 (2 ^ 32)) (Some m.0) n m.2 in
      let same : m.0 ≡ n = same_some m.0 n g.1 in
      (subst (λ x. x < 2 ^ 32) same (ltb-true m.0 (2 ^ 32) g.0), (number_back f m.0 m.1).1 ∙ ap (λ x. decimal x) same)

  pub run_text : IsText run_in (λ n. decimal n) (λ n. n < 2 ^ 32)
  run_text = record { there = run_there; back = run_back }

  -- ---- keys

  key_there : (v : Version) (k : OrderedKey) → IsKey v k → key_in v (key_word v k) ≡ Some k
  key_there One k h = ap (option_map number_key)
      (number_there (from_be_bytes w64 (bytes_of k)) (number_of_bytes (bytes_of k) h.0 h.1)) ∙
      ap (λ x. Some x) (key_of_number k h.0 h.1)
  key_there _ k h =
      let short : length (bytes_of k) ≤ 32 = h.1 in
      ap (option_and_then key_for) (value_there (bytes_of k) (h.0, omega (arith, short)))
      ∙ cond-true (leb (length (bytes_of k)) 32) (Some (key_of (bytes_of k))) None (grind (arith, nat_tests, short))
      ∙ ap (λ x. Some x) (key_of-bytes_of k)

  key_back : (v : Version) (f : List ℕ) (k : OrderedKey) → key_in v f ≡ Some k → IsKey v k × (f ≡ key_word v k)
  key_back One f k e =
      let m = mapped number_key (number_in f) k e in
      let n = number_back f m.0 m.1 in (
        subst (IsKey One) m.2 (number_key_is m.0 n.0),
        n.1 ∙ ap (λ x. decimal x) (sym (number_of_key m.0 n.0)) ∙
            ap (key_word One) m.2,
      )
  key_back _ f k e =
      let m = chained key_for (value_in f) k e in
      let w = value_back f m.0 m.1 in
      let g = gate (leb (length m.0) 32) (Some (key_of m.0)) k m.2 in
      let same : key_of m.0 ≡ k = same_some (key_of m.0) k g.1 in
      let short : length m.0 ≤ 32 = grind (arith, nat_tests, g.0) in
      let bytes : bytes_of k ≡ m.0 = ap bytes_of (sym same) ∙ bytes_of-key_of m.0 in
      (subst (λ (x : List ℕ). IsByteList x × (length x ≤ 32)) (sym bytes) (w.0.0, short), w.1 ∙ ap hex (sym bytes))

  pub key_text : (v : Version) → IsText (key_in v) (key_word v) (IsKey v)
  key_text v = record { there = key_there v; back = key_back v }

-- ---- bytes that no such text has, and no word of letters

-- no digit of base 10 or 16, and no h
abbrev pub IsNoDigit : ℕ → Type 0
IsNoDigit c = ((eqb c 10 || eqb c 32) || (eqb c 61 || eqb c 124)) ≡ true

not_digit : (c d : ℕ) → IsNoDigit c → d < 16 → not (eqb (hex_digit d) c) ≡ true
not_digit c d n h = grind (arith, nat_tests, n, h)

pub no_in_hex_digits : (c : ℕ) (bytes : List ℕ) → IsNoDigit c → IsByteList bytes → has_no c (hex_digits bytes) ≡ true
no_in_hex_digits c [] n h = refl
no_in_hex_digits c (b ∷ bytes) n h =
    let small : b < 256 = h.0 in
    let more = no_in_hex_digits c bytes n h.1 in
    let low = and_from (not (eqb (hex_digit (b % 16)) c)) (has_no c (hex_digits bytes))
    (not_digit c (b % 16) n (omega (arith, small))) more in
    and_from (not (eqb (hex_digit (b / 16)) c)) (has_no c (hex_digit (b % 16) ∷ hex_digits bytes))
    (not_digit c (b / 16) n (omega (arith, small))) low

not_h : (c : ℕ) → IsNoDigit c → not (eqb 104 c) ≡ true
not_h c n = grind (arith, nat_tests, n)

pub no_in_hex : (c : ℕ) (bytes : List ℕ) → IsNoDigit c → IsByteList bytes → has_no c (hex bytes) ≡ true
no_in_hex c bytes n h = and_from (not (eqb 104 c)) (has_no c (hex_digits bytes)) (not_h c n)
    (no_in_hex_digits c bytes n h)

not_decimal : (c b : ℕ) → IsNoDigit c → is_ascii_digit b ≡ true → not (eqb b c) ≡ true
not_decimal c b n h = grind (arith, nat_tests, n, h)

no_in_digits : (c : ℕ) (text : List ℕ) → IsNoDigit c → list_all is_ascii_digit text ≡ true → has_no c text ≡ true
no_in_digits c [] n h = refl
no_in_digits c (b ∷ text) n h =
    let p = and_parts (is_ascii_digit b) (list_all is_ascii_digit text) h in
    and_from (not (eqb b c)) (has_no c text) (not_decimal c b n p.0) (no_in_digits c text n p.1)

-- A to Z
abbrev pub is_letter : ℕ → Bool
is_letter b = leb 65 b && leb b 90

not_letter : (c b : ℕ) → IsNoDigit c → is_letter b ≡ true → not (eqb b c) ≡ true
not_letter c b n h = grind (arith, nat_tests, n, h)

pub no_in_letters : (c : ℕ) (text : List ℕ) → IsNoDigit c → list_all is_letter text ≡ true → has_no c text ≡ true
no_in_letters c [] n h = refl
no_in_letters c (b ∷ text) n h =
    let p = and_parts (is_letter b) (list_all is_letter text) h in
    and_from (not (eqb b c)) (has_no c text) (not_letter c b n p.0) (no_in_letters c text n p.1)

module _ (laws : NumberLaws) where
  pub no_in_decimal : (c n : ℕ) → IsNoDigit c → IsNumber n → has_no c (decimal n) ≡ true
  no_in_decimal c n d h = no_in_digits c (decimal n) d (laws.decimal n h).digits

  pub no_in_key : (c : ℕ) (v : Version) (k : OrderedKey) → IsNoDigit c → IsKey v k → has_no c (key_word v k) ≡ true
  no_in_key c One k n h = no_in_decimal c (from_be_bytes w64 (bytes_of k)) n (number_of_bytes (bytes_of k) h.0 h.1)
  no_in_key c _ k n h = no_in_hex c (bytes_of k) n h.0

-- ---- records

-- no field of the list has the byte
abbrev pub AllHaveNo : ℕ → List (List ℕ) → Type 0
AllHaveNo c fs = AllByRecursion (λ f. has_no c f ≡ true) fs

-- the first = stands after the key
place : (key value : List ℕ) → has_no 61 key ≡ true → position_or_len is_equals (key ++ 61 ∷ value) ≡ length key
place [] value h = refl
place (b ∷ key) value h =
    let p = and_parts (not (eqb b 61)) (has_no 61 key) h in
    let rest : position_or_len is_equals (key ++ 61 ∷ value) ≡ length key = place key value p.1 in
    cond-true (not (eqb b 61)) (1 + position_or_len is_equals (key ++ 61 ∷ value)) 0 p.0 ∙ omega (arith, rest)

before_equals : (key value : List ℕ) → has_no 61 key ≡ true → before_first is_equals (key ++ 61 ∷ value) ≡ key
before_equals key value h = ap (λ n. take n (key ++ 61 ∷ value)) (place key value h) ∙ take-append_seam key (61 ∷ value)

after_equals : (key value : List ℕ) → has_no 61 key ≡ true → after_first is_equals (key ++ 61 ∷ value) ≡ value
after_equals key value h = ap (λ n. drop (n + 1) (key ++ 61 ∷ value)) (place key value h) ∙
    drop-append-add key (61 ∷ value) 1

-- a field with a value has a =
cut_field : (f w : List ℕ) → value_in (after_first is_equals f) ≡ Some w → f ≡ before_first is_equals f ++
    61 ∷ after_first is_equals f
cut_field f w e = elim (cases_lt (position_or_len is_equals f) (length f)) [
  | inl inside ↦
      let byte : get_or f (position_or_len is_equals f) 0 ≡ 61 =
      grind (arith, nat_tests, passes_at_first is_equals f 0 inside) in
      split_at_first is_equals f 0 inside ∙ ap (λ b. before_first is_equals f ++ b ∷ after_first is_equals f) byte
  | inr outside ↦
      let none : after_first is_equals f ≡ [] = drop_of_length-le f (omega (arith, outside)) in
      let no_value : None ≡ Some w = ap value_in (sym none) ∙ e in
      absurd cc
]

module _ (laws : NumberLaws) where
  record_there : (v : Version) (r : OrderedKey × List ℕ) → IsRecord v r → record_in v (record_word v r) ≡ Some r
  record_there v r h =
      let none = no_in_key laws 61 v r.0 refl h.0 in
      let key = ap (key_in v) (before_equals (key_word v r.0) (hex r.1) none) ∙ (key_text laws v).there r.0 h.0 in
      let value = ap value_in (after_equals (key_word v r.0) (hex r.1) none) ∙ value_there r.1 h.1 in
      zip_of (key_in v (before_first is_equals (record_word v r))) (value_in (after_first is_equals (record_word v r)))
      r.0 r.1 key value

  record_back : (v : Version) (f : List ℕ) (r : OrderedKey × List ℕ) → record_in v f ≡ Some r → IsRecord v r ×
      (f ≡ record_word v r)
  record_back v f r e =
      let z = zipped (key_in v (before_first is_equals f)) (value_in (after_first is_equals f)) r e in
      let key = (key_text laws v).back (before_first is_equals f) r.0 z.0 in
      let value = value_back (after_first is_equals f) r.1 z.1 in (
        (key.0, value.0),
        cut_field f r.1 z.1 ∙ ap (λ (x : List ℕ). x ++ 61 ∷ after_first is_equals f) key.1 ∙
            ap (λ (x : List ℕ). key_word v r.0 ++ 61 ∷ x) value.1,
      )

  pub record_text : (v : Version) → IsText (record_in v) (record_word v) (IsRecord v)
  record_text v = record { there = record_there v; back = record_back v }

  pub no_in_record : (c : ℕ) (v : Version) (r : OrderedKey × List ℕ) → IsNoDigit c → eqb 61 c ≡ false → IsRecord v r →
      has_no c (record_word v r) ≡ true
  no_in_record c v r n other h =
      has_no-append c (key_word v r.0) (61 ∷ hex r.1) (no_in_key laws c v r.0 n h.0)
      (and_from (not (eqb 61 c)) (has_no c (hex r.1)) (ap not other) (no_in_hex c r.1 n h.1.0))

  pub no_in_records : (c : ℕ) (v : Version) (rs : Records) → IsNoDigit c → eqb 61 c ≡ false → AreRecords v rs →
      AllHaveNo c (map (record_word v) rs)
  no_in_records c v [] n other h = tt
  no_in_records c v (r ∷ rs) n other h = (no_in_record c v r n other h.0, no_in_records c v rs n other h.1)
