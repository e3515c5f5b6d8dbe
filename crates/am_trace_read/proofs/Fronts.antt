-- Texts that are read from their front.
use Rattle.std.proofs.Common.{◌≡◌, ℕ, zero, suc, ◌+◌, ◌-◌, ◌*◌, ◌/◌, ◌%◌, ◌^◌, ◌<◌, ◌≤◌, eqb, not, ◌||◌, Bool, true}
use Rattle.std.proofs.Common.{false, inl, inr, List}
use Rattle.std.proofs.Common.{[], ◌∷◌, ◌++◌, length, get_or, take, drop, Some, None, refl, sym, ap, ◌∙◌, subst, arith}
use Rattle.std.proofs.Common.{append_assoc, decimal}
use Rattle.std.specs.Char.{is_ascii_digit}
use Rattle.std.specs.List.{list_all}
use Rattle.std.proofs.lemmas.Bool.{and_parts, and_from, cond-true, cases_eq, ne_eqb}
use Rattle.std.proofs.lemmas.Grind.{common_steps}
use Rattle.std.proofs.lemmas.List.{take-append-drop, take_more, take-take, get_or-take, length-take}
use Rattle.std.proofs.lemmas.List.{length-take-le}
use Rattle.am_line_text.specs.Numbers.{is_numeral, numeral_value, number_for}
use Rattle.am_line_text.proofs.Numerals.{next_digit, stays_short, short_fits}
use Rattle.am_record.specs.OrderedKey.{OrderedKey, key_of, bytes_of, bytes_of-key_of}
use Rattle.am_trace_text.specs.Words.{hex_digit, hex_digits, hex}
use Rattle.am_trace_text.specs.Bounds.{IsByteList, IsNumber}
use Rattle.am_trace_text.specs.FieldReadings.{number_in, byte_in}
use Rattle.am_trace_text.proofs.FieldTexts.{NumberLaws, number_text, byte_back}

pub hex_digits_append : (a b : List ℕ) → hex_digits (a ++ b) ≡ hex_digits a ++ hex_digits b
hex_digits_append [] b = refl
hex_digits_append (x ∷ a) b = ap (λ l. hex_digit (x / 16) ∷ hex_digit (x % 16) ∷ l) (hex_digits_append a b)

pub bytes_append : (a b : List ℕ) → IsByteList a → IsByteList b → IsByteList (a ++ b)
bytes_append [] b h k = k
bytes_append (x ∷ a) b h k = (h.0, bytes_append a b h.1 k)

-- more digits were read
pub more_read : (text bytes more all rest further : List ℕ) → text ≡ hex bytes ++ rest → rest ≡ hex_digits more ++
    further → all ≡ bytes ++ more → text ≡ hex all ++ further
more_read text bytes more all rest further h r e =
    h ∙ ap (λ (l : List ℕ). hex bytes ++ l) r ∙ sym (append_assoc (hex bytes) (hex_digits more) further)
    ∙ ap (λ (l : List ℕ). (104 ∷ l) ++ further) (sym (hex_digits_append bytes more) ∙ ap hex_digits (sym e))

-- the digits of a byte
pub one_byte : (text more rest : List ℕ) (high low b : ℕ) → text ≡ high ∷ more → more ≡ low ∷ rest →
    byte_in high low ≡ Some b → (b < 256) × (text ≡ hex_digits (b ∷ []) ++ rest)
one_byte text more rest high low b h k e =
    let back = byte_back high low b e in
    (back.0, h ∙ ap (λ (l : List ℕ). high ∷ l) k ∙ (λ i. back.1 i ∷ back.2 i ∷ rest))

-- digits at the front
pub front_cut : (text bytes : List ℕ) (n : ℕ) → take n text ≡ hex_digits bytes → text ≡ hex_digits bytes ++
    take (length text - n) (drop n text)
front_cut text bytes n e =
    let tail : drop n text ≡ take (length text - n) (drop n text) = grind (arith, common_steps) in
    sym (take-append-drop n text) ∙ ap (λ (l : List ℕ). l ++ drop n text) e ∙
    ap (λ (l : List ℕ). hex_digits bytes ++ l) tail

-- so many digits were read, and this is their number
pub record AreDigits (text : List ℕ) (end number : ℕ) : Type 0 where
  pub digits : list_all is_ascii_digit (take end text) ≡ true
  pub value : number ≡ numeral_value (take end text)

digits_push : (ds : List ℕ) (c : ℕ) → list_all is_ascii_digit ds ≡ true → is_ascii_digit c ≡ true →
    list_all is_ascii_digit (ds ++ c ∷ []) ≡ true
digits_push [] c h k = and_from (is_ascii_digit c) true k refl
digits_push (d ∷ ds) c h k =
    let p = and_parts (is_ascii_digit d) (list_all is_ascii_digit ds) h in
    and_from (is_ascii_digit d) (list_all is_ascii_digit (ds ++ c ∷ [])) p.0 (digits_push ds c p.1 k)

module _ (text : List ℕ) (end number : ℕ) (inside : end < length text) (few : end < 19)
    (one : is_ascii_digit (get_or text end 0) ≡ true) (h : AreDigits text end number) where
  abbrev ds : List ℕ
  ds = take (end + 1) text

  all : list_all is_ascii_digit ds ≡ true
  all = ap (list_all is_ascii_digit) (take_more text end 0 inside) ∙
      digits_push (take end text) (get_or text end 0) h.digits one

  long : length ds ≡ end + 1
  long = length-take-le (end + 1) text (omega arith)

  whole : take (end + 1) ds ≡ ds
  whole = take-take (end + 1) (end + 1) text (omega arith)

  before : take end ds ≡ take end text
  before = take-take end (end + 1) text (omega arith)

  last : get_or ds end 0 ≡ get_or text end 0
  last = get_or-take (end + 1) text end 0 (omega arith)

  pub next_value : numeral_value (take (end + 1) text) ≡ 10 * number + (get_or text end 0 - 48)
  next_value = ap numeral_value (sym whole) ∙ next_digit ds end all (omega (arith, long)) (omega (arith, long)) ∙
      (λ i. 10 * (ap numeral_value before ∙ sym h.value) i + (last i - 48))

  pub stays_small : 10 * number + (get_or text end 0 - 48) < 10 ^ 19
  stays_small =
      let short = stays_short ds end all (omega (arith, long)) (omega (arith, long)) in
      subst (λ n. n < 10 ^ 19) (ap numeral_value whole ∙ next_value) short

  pub one_digit_more : AreDigits text (end + 1) (10 * number + (get_or text end 0 - 48))
  one_digit_more = record { digits = all; value = sym next_value }

or_true : (b : Bool) → (b || true) ≡ true
or_true true = refl
or_true false = refl

-- digits with no 0 before others, of a text that has as many
numeral_there : (text : List ℕ) (end : ℕ) → 0 < end → end ≤ length text → (get_or text 0 0 ≡ 48 → 1 < end → ⊥) →
    list_all is_ascii_digit (take end text) ≡ true → is_numeral (take end text) ≡ true
numeral_there [] end some inside first all = absurd (omega arith)
numeral_there (c ∷ text) zero some inside first all = absurd (omega arith)
numeral_there (c ∷ text) (suc end) some inside first all = elim (cases_eq c 48) [
  | inl zero_first ↦
      let short : end ≡ 0 = elim (cases_eq end 0) [
        | inl none ↦ none
        | inr more ↦ absurd (first zero_first (omega arith))
      ] in
      let none : length (take end text) ≡ 0 = ap (λ n. length (take n text)) short in
      and_from _ (not (eqb c 48) || eqb (length (take end text)) 0) all
      (ap (λ n. not (eqb c 48) || eqb n 0) none ∙ or_true (not (eqb c 48)))
  | inr other ↦ and_from _ (not (eqb c 48) || eqb (length (take end text)) 0) all
      (ap (λ b. not b || eqb (length (take end text)) 0) (ne_eqb c 48 other))
]

-- the number of the first digits
pub number_there : (laws : NumberLaws) (text : List ℕ) (end n : ℕ) → 0 < end → end ≤ length text → end ≤ 19 →
    (get_or text 0 0 ≡ 48 → 1 < end → ⊥) → AreDigits text end n →
    IsNumber n × (text ≡ decimal n ++ take (length text - end) (drop end text))
number_there laws text end n some inside few first h =
    let numeral = numeral_there text end some inside first h.digits in
    let fits = short_fits (take end text) h.digits (omega (arith, length-take end text, few)) in
    let is : number_in (take end text) ≡ Some n = cond-true (is_numeral (take end text))
    (number_for (numeral_value (take end text))) None numeral ∙ fits ∙ ap (λ v. Some v) (sym h.value) in
    let back = (number_text laws).back (take end text) n is in
    let tail : drop end text ≡ take (length text - end) (drop end text) = grind (arith, common_steps) in (
      back.0,
      sym (take-append-drop end text) ∙ ap (λ (l : List ℕ). l ++ drop end text) back.1 ∙
          ap (λ (l : List ℕ). decimal n ++ l) tail,
    )

-- a key of these bytes
pub bytes_of_key : (key : OrderedKey) (slice bytes : List ℕ) → key ≡ key_of slice → slice ≡ bytes → bytes_of key ≡ bytes
bytes_of_key key slice bytes h e = ap bytes_of h ∙ bytes_of-key_of slice ∙ e
