-- What is read of a count.
use Rattle.std.proofs.Common.{◌≡◌, ◌+◌, ◌≢◌, ℕ, ◌≤◌, ◌⊎◌, inl, inr, List, [], ◌∷◌, ◌++◌, refl, sym, ap, ◌∙◌, arith}
use Rattle.std.proofs.Common.{append_assoc, append-nil, ◌<◌, ◌^◌, Some, None, ltb, eqb, true, false, length, decimal}
use Rattle.std.proofs.Common.{suc}
use Rattle.std.proofs.lemmas.Bool.{cond_both, cond-true, lt-ltb, false≢true}
use Rattle.std.proofs.lemmas.Bool.Decides.{nat_tests}
use Rattle.std.proofs.lemmas.Fmt.{length-decimal-le}
use Rattle.std.proofs.lemmas.List.{length-append}
use Rattle.am_line_text.specs.Numbers.{numeral, is_numeral, numeral_value, number_for}
use Rattle.am_line_text.proofs.Numerals.{is_numeral-numeral, numeral_value-numeral, numeral-numeral_value}
use Rattle.am_line_text.proofs.Numerals.{numeral-decimal}
use Rattle.am_resp_text.specs.Counts.{crlf, count_line, text_number, HasNoCr}
use Rattle.am_resp_text.specs.Requests.{IsCountLine}
use Rattle.am_resp_text.specs.Gaps.{IsGap, IsBeginning, BeginsNone}
use Rattle.am_resp_text.specs.declared.fault.Gap.{Gap}
use Rattle.am_resp_text.specs.declared.fault.Gap.TheVariants.{Incomplete, Bad}
use Rattle.am_resp_text.proofs.Cuts.{same_head, cut_at_cr, count_line-opened, numeral-no_cr}
use Rattle.am_resp_text.proofs.Beginnings.{front_of_numeral}
use Rattle.am_resp_text.proofs.Continuations.{gap_behind, gap_at_front}

-- ---- numbers

pub text_number-numeral : (n : ℕ) → n < 2 ^ 64 → text_number (numeral n) ≡ Some n
text_number-numeral n small =
    cond-true (is_numeral (numeral n)) (number_for (numeral_value (numeral n))) None (is_numeral-numeral n)
    ∙ ap number_for (numeral_value-numeral n)
    ∙ cond-true (ltb n (2 ^ 64)) (Some n) None (lt-ltb n (2 ^ 64) small)

number_for-some : (v n : ℕ) → number_for v ≡ Some n → v ≡ n
number_for-some v n = cond_both (ltb v (2 ^ 64)) (Some v) None (λ o. o ≡ Some n → v ≡ n) (λ _ e. cc) (λ _ e. cc)

pub text_number-some : (text : List ℕ) (n : ℕ) → text_number text ≡ Some n → text ≡ numeral n
text_number-some text n = cond_both (is_numeral text) (number_for (numeral_value text)) None
    (λ o. o ≡ Some n → text ≡ numeral n)
    (λ is e. sym (numeral-numeral_value text is) ∙ ap numeral (number_for-some (numeral_value text) n e))
    (λ _ e. cc)

pub is_nil : (xs : List ℕ) → true ≡ eqb (length xs) 0 → xs ≡ []
is_nil [] h = refl
is_nil (x ∷ xs) h = absurd (grind (arith, nat_tests, h))

pub is_some_byte : (xs : List ℕ) → false ≡ eqb (length xs) 0 → xs ≢ []
is_some_byte [] h = absurd (false≢true h)
is_some_byte (x ∷ xs) h = λ e. cc

pub nothing_before : (bytes : List ℕ) (byte : ℕ) → length bytes ≡ 0 → bytes ++ byte ∷ [] ≡ byte ∷ []
nothing_before [] byte h = refl
nothing_before (c ∷ bytes) byte h = absurd (omega (arith, h))

-- ---- the end of a line

pub gap_of_cr : (bytes : List ℕ) (gap : Gap) → IsGap (λ text. text ≡ 13 ∷ []) bytes gap →
    IsGap (λ text. text ≡ crlf) bytes gap
gap_of_cr bytes gap there =
    gap_at_front (λ text. text ≡ crlf) (λ text. text ≡ 13 ∷ []) bytes gap
    (λ text is. (10 ∷ [], ap (λ (z : List ℕ). z ++ 10 ∷ []) is))
    (λ text is. (13 ∷ [], 10 ∷ [], refl, is))
    there

pub gap_of_lf : (bytes rest : List ℕ) (gap : Gap) → bytes ≡ 13 ∷ rest → IsGap (λ text. text ≡ 10 ∷ []) rest gap →
    IsGap (λ text. text ≡ crlf) bytes gap
gap_of_lf bytes rest gap e there =
    gap_behind (λ text. text ≡ crlf) (λ text. text ≡ 10 ∷ []) bytes (13 ∷ []) rest gap e
    (λ text is. ap (λ (z : List ℕ). 13 ∷ z) is)
    (λ more text x is h. (10 ∷ [], refl, (same_head 13 13 more (10 ∷ x) (h ∙ ap (λ (z : List ℕ). z ++ x) is)).1))
    there

-- ---- lines of counts

-- bytes are empty, or begin with a CR
abbrev pub IsFromCr : List ℕ → Type 0
IsFromCr bytes = (bytes ≡ []) ⊎ ((rest : List ℕ) × (bytes ≡ 13 ∷ rest))

-- bytes with no CR before a CR
before_cr : (a b x y : List ℕ) → HasNoCr a → a ++ x ≡ b ++ (13 ∷ y) → (t : List ℕ) × (a ++ t ≡ b)
before_cr [] b x y h e = (b, refl)
before_cr (c ∷ a) [] x y h e = absurd (h.0 (same_head c 13 (a ++ x) y e).0)
before_cr (c ∷ a) (d ∷ b) x y h e =
    let parts = same_head c d (a ++ x) (b ++ (13 ∷ y)) e in
    let rest = before_cr a b x y h.1 parts.1 in
    (rest.0, ap (λ z. z ∷ (a ++ rest.0)) parts.0 ∙ ap (λ z. d ∷ z) rest.1)

-- what stands behind the mark, where a count line is at the front of the bytes and of some more
behind_mark : (bytes behind digits end more text x : List ℕ) (mark n : ℕ) → bytes ≡ mark ∷ behind → behind ≡ digits ++
    end →
    text ≡ count_line mark n → bytes ++ more ≡ text ++ x → digits ++ (end ++ more) ≡ numeral n ++ (13 ∷ 10 ∷ x)
behind_mark bytes behind digits end more text x mark n e b t h =
    let left : bytes ++ more ≡ mark ∷ (digits ++ (end ++ more)) =
    ap (λ (z : List ℕ). z ++ more) e ∙ ap (λ (z : List ℕ). mark ∷ (z ++ more)) b ∙
    ap (λ (z : List ℕ). mark ∷ z) (append_assoc digits end more) in
    let right = ap (λ (z : List ℕ). z ++ x) t ∙ count_line-opened mark n x in
    (same_head mark mark (digits ++ (end ++ more)) (numeral n ++ (13 ∷ 10 ∷ x)) (sym left ∙ h ∙ right)).1

-- the mark is missing, or another stands there
pub gap_of_mark : (bytes : List ℕ) (mark most : ℕ) (gap : Gap) → IsGap (λ text. text ≡ mark ∷ []) bytes gap →
    IsGap (IsCountLine mark most) bytes gap
gap_of_mark bytes mark most gap there =
    gap_at_front (IsCountLine mark most) (λ text. text ≡ mark ∷ []) bytes gap
    (λ text is. (numeral 0 ++ crlf, (0, omega arith, ap (λ (z : List ℕ). z ++ (numeral 0 ++ crlf)) is)))
    (λ text is. (mark ∷ [], numeral is.0 ++ crlf, refl, is.2))
    there

pub mark_alone : (bytes behind : List ℕ) (mark most : ℕ) → bytes ≡ mark ∷ behind → behind ≡ [] →
    IsGap (IsCountLine mark most) bytes Incomplete
mark_alone bytes behind mark most e b = (
  numeral 0 ++ crlf,
  (λ h. cc),
  (
    0,
    omega arith,
    ap (λ (z : List ℕ). z ++ (numeral 0 ++ crlf)) (e ∙ ap (λ (z : List ℕ). mark ∷ z) b),
  ),
)

-- no number has the digits, or only a greater one
pub no_number : (bytes behind digits end : List ℕ) (mark most : ℕ) → bytes ≡ mark ∷ behind → behind ≢ [] →
    behind ≡ digits ++ end → HasNoCr digits → IsFromCr end →
    ((n : ℕ) → n ≤ most → digits ≡ numeral n → ⊥) → BeginsNone (IsCountLine mark most) bytes
no_number bytes behind digits end mark most e some b clear from none = λ more text x is h.
    let same = behind_mark bytes behind digits end more text x mark is.0 e b is.2 h in
    elim from [
      | inl nil ↦
          let all : behind ≡ digits = b ∙ ap (λ (z : List ℕ). digits ++ z) nil ∙ append-nil digits in
          let there : digits ≢ [] = λ z. some (all ∙ z) in
          let front = before_cr digits (numeral is.0) (end ++ more) (10 ∷ x) clear same in
          let number = front_of_numeral digits front.0 is.0 there front.1 in
          let few = is.1 in
          none (numeral_value digits) (omega (arith, number.1, few)) (sym (numeral-numeral_value digits number.0))
      | inr rest ↦
          let cr = ap (λ (z : List ℕ). digits ++ (z ++ more)) rest.1 in
          none is.0 is.1 (cut_at_cr digits (numeral is.0) (rest.0 ++ more) (10 ∷ x) clear (numeral-no_cr is.0)
          (sym cr ∙ same)).0
    ]

-- the end of the line is missing, or is none
pub gap_of_end : (bytes behind digits end : List ℕ) (mark most n : ℕ) (gap : Gap) → bytes ≡ mark ∷ behind →
    behind ≡ digits ++ end → digits ≡ numeral n → n ≤ most → IsFromCr end →
    IsGap (λ text. text ≡ crlf) end gap → IsGap (IsCountLine mark most) bytes gap
gap_of_end bytes behind digits end mark most n Incomplete e b d few from missing =
    let whole : bytes ++ missing.0 ≡ count_line mark n =
    ap (λ (z : List ℕ). z ++ missing.0) e ∙ ap (λ (z : List ℕ). mark ∷ (z ++ missing.0)) b ∙
    ap (λ (z : List ℕ). mark ∷ z) (append_assoc digits end missing.0) ∙
    ap (λ (z : List ℕ). mark ∷ (z ++ (end ++ missing.0))) d ∙ ap (λ (z : List ℕ). mark ∷ (numeral n ++ z)) missing.2 in
    (missing.0, missing.1, (n, few, whole))
gap_of_end bytes behind digits end mark most n Bad e b d few from none = λ more text x is h.
    let same = behind_mark bytes behind digits end more text x mark is.0 e b is.2 h ∙ refl in
    let number = ap (λ (z : List ℕ). z ++ (end ++ more)) (sym d) ∙ same in
    elim from [
      | inl nil ↦ none crlf crlf [] refl (ap (λ (z : List ℕ). z ++ crlf) nil)
      | inr rest ↦
          let cr = ap (λ (z : List ℕ). numeral n ++ (z ++ more)) rest.1 in
          let cut = cut_at_cr (numeral n) (numeral is.0) (rest.0 ++ more) (10 ∷ x) (numeral-no_cr n)
          (numeral-no_cr is.0) (sym cr ∙ number) in
          none more crlf x refl (ap (λ (z : List ℕ). z ++ more) rest.1 ∙ ap (λ (z : List ℕ). 13 ∷ z) cut.1)
    ]

some_bytes : (xs : List ℕ) → xs ≢ [] → 0 < length xs
some_bytes [] h = absurd (h refl)
some_bytes (x ∷ xs) h = omega arith

-- What came of a count line has few bytes.
pub begun_is_short : (bytes : List ℕ) (mark most : ℕ) → most < 2 ^ 64 → IsBeginning (IsCountLine mark most) bytes →
    length bytes ≤ 22
begun_is_short bytes mark most small begun =
    let more = begun.0 in
    let n = begun.2.0 in
    let few : n < 2 ^ 64 = omega (arith, begun.2.1, small) in
    let same : length (numeral n) ≡ length (decimal n) = ap length (numeral-decimal n few) in
    let wide : n < 10 ^ 20 = omega (arith, few) in
    let digits : length (decimal n) ≤ 20 = length-decimal-le 20 n (omega arith) wide few in
    let all = ap length begun.2.2 in
    let front = length-append bytes more in
    let line : length (count_line mark n) ≡ suc (length (numeral n ++ crlf)) = refl in
    let end : length (numeral n ++ crlf) ≡ length (numeral n) + 2 = length-append (numeral n) crlf in
    let some = some_bytes more begun.1 in
    omega (arith, all, front, line, end, same, digits, some)
