-- Where the pieces of a text end.
use Rattle.std.proofs.Common.{◌≡◌, ◌≢◌, ℕ, true, List, [], ◌∷◌, ◌++◌, length, refl, sym, ap, ◌∙◌}
use Rattle.std.proofs.Common.{arith, append_assoc}
use Rattle.std.proofs.lemmas.Bool.{and_parts}
use Rattle.std.proofs.lemmas.Bool.Decides.{nat_tests}
use Rattle.std.specs.Char.{is_ascii_digit}
use Rattle.std.specs.List.{list_all}
use Rattle.am_line_text.specs.Numbers.{numeral, numeral_value}
use Rattle.am_line_text.proofs.Numerals.{is_numeral-numeral, is_numeral-digits, numeral_value-numeral}
use Rattle.am_resp_text.specs.Counts.{crlf, count_line, bulk_text, HasNoCr}

digit-no_cr : (b : ℕ) → is_ascii_digit b ≡ true → b ≢ 13
digit-no_cr b h = λ e. grind (arith, nat_tests, h, e)

digits-no_cr : (ds : List ℕ) → list_all is_ascii_digit ds ≡ true → HasNoCr ds
digits-no_cr [] h = tt
digits-no_cr (d ∷ ds) h =
    let parts = and_parts (is_ascii_digit d) (list_all is_ascii_digit ds) h in
    (digit-no_cr d parts.0, digits-no_cr ds parts.1)

pub numeral-no_cr : (n : ℕ) → HasNoCr (numeral n)
numeral-no_cr n = digits-no_cr (numeral n) (is_numeral-digits (numeral n) (is_numeral-numeral n))

pub same_head : (a b : ℕ) (x y : List ℕ) → a ∷ x ≡ b ∷ y → (a ≡ b) × (x ≡ y)
same_head a b x y e = (cc, cc)

-- the first CR cuts a text in one way
pub cut_at_cr : (a b x y : List ℕ) → HasNoCr a → HasNoCr b → a ++ (13 ∷ x) ≡ b ++ (13 ∷ y) → (a ≡ b) × (x ≡ y)
cut_at_cr [] [] x y f h e = (refl, (same_head 13 13 x y e).1)
cut_at_cr [] (c ∷ b) x y f h e = absurd (h.0 (sym (same_head 13 c x (b ++ (13 ∷ y)) e).0))
cut_at_cr (c ∷ a) [] x y f h e = absurd (f.0 (same_head c 13 (a ++ (13 ∷ x)) y e).0)
cut_at_cr (c ∷ a) (d ∷ b) x y f h e =
    let parts = same_head c d (a ++ (13 ∷ x)) (b ++ (13 ∷ y)) e in
    let rest = cut_at_cr a b x y f.1 h.1 parts.1 in
    (ap (λ z. z ∷ a) parts.0 ∙ ap (λ z. d ∷ z) rest.0, rest.1)

-- and its length does
pub cut_at_length : (a b x y : List ℕ) → length a ≡ length b → a ++ x ≡ b ++ y → (a ≡ b) × (x ≡ y)
cut_at_length [] [] x y n e = (refl, e)
cut_at_length [] (c ∷ b) x y n e = absurd (omega (arith, n))
cut_at_length (c ∷ a) [] x y n e = absurd (omega (arith, n))
cut_at_length (c ∷ a) (d ∷ b) x y n e =
    let parts = same_head c d (a ++ x) (b ++ y) e in
    let rest = cut_at_length a b x y (omega (arith, n)) parts.1 in
    (ap (λ z. z ∷ a) parts.0 ∙ ap (λ z. d ∷ z) rest.0, rest.1)

pub same_numeral : (m n : ℕ) → numeral m ≡ numeral n → m ≡ n
same_numeral m n e = sym (numeral_value-numeral m) ∙ ap numeral_value e ∙ numeral_value-numeral n

pub count_line-opened : (mark n : ℕ) (x : List ℕ) → count_line mark n ++ x ≡ mark ∷ (numeral n ++ (13 ∷ 10 ∷ x))
count_line-opened mark n x = ap (λ z. mark ∷ z) (append_assoc (numeral n) crlf x)

-- a count is cut in one way
pub cut_count : (k l m n : ℕ) (x y : List ℕ) → count_line k m ++ x ≡ count_line l n ++ y → (k ≡ l) × (m ≡ n) × (x ≡ y)
cut_count k l m n x y e =
    let opened = sym (count_line-opened k m x) ∙ e ∙ count_line-opened l n y in
    let parts = same_head k l (numeral m ++ (13 ∷ 10 ∷ x)) (numeral n ++ (13 ∷ 10 ∷ y)) opened in
    let cut = cut_at_cr (numeral m) (numeral n) (10 ∷ x) (10 ∷ y) (numeral-no_cr m) (numeral-no_cr n) parts.1 in
    (parts.0, same_numeral m n cut.0, (same_head 10 10 x y cut.1).1)

-- bytes and CR LF, after their count
pub cut_bytes : (a b x y : List ℕ) → bulk_text a ++ x ≡ bulk_text b ++ y → (a ≡ b) × (x ≡ y)
cut_bytes a b x y e =
    let left = append_assoc (count_line 36 (length a)) (a ++ crlf) x in
    let right = append_assoc (count_line 36 (length b)) (b ++ crlf) y in
    let count = cut_count 36 36 (length a) (length b) ((a ++ crlf) ++ x) ((b ++ crlf) ++ y) (sym left ∙ e ∙ right) in
    let both = sym (append_assoc a crlf x) ∙ count.2 ∙ append_assoc b crlf y in
    let cut = cut_at_length a b (crlf ++ x) (crlf ++ y) count.1 both in
    (cut.0, (cut_at_length crlf crlf x y refl cut.1).1)
