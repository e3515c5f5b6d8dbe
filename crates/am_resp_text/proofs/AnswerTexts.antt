-- The text of an answer is cut in one way, whatever follows it.
use Rattle.std.proofs.Common.{◌≡◌, ℕ, zero, suc, ◌+◌, ℤ, pos, negsuc, subst, false, eqb, List, [], ◌∷◌, ◌++◌, length}
use Rattle.std.proofs.Common.{codes, refl, sym, ap, ◌∙◌, arith, append_assoc}
use Rattle.std.specs.List.{AllByRecursion, flat_map}
use Rattle.std.proofs.lemmas.Bool.{true≢false, false≢true}
use Rattle.std.proofs.lemmas.Bool.Decides.{nat_tests}
use Rattle.am_line_text.specs.Numbers.{numeral, is_numeral}
use Rattle.am_line_text.proofs.Numerals.{is_numeral-numeral}
use Rattle.am_resp_text.specs.Counts.{crlf, count_line, signed_numeral, HasNoCr}
use Rattle.am_resp_text.specs.declared.part.Part.{Part}
use Rattle.am_resp_text.specs.declared.part.Part.TheVariants.{Simple, Error, Integer, Bulk, Nil, Array, NilArray}
use Rattle.am_resp_text.specs.Answers.{part_text, parts_text, HasNoLineEnd, IsPlainPart, answers_inside, AreAnswers}
use Rattle.am_resp_text.proofs.Cuts.{same_head, cut_at_cr, cut_at_length, cut_count, cut_bytes, count_line-opened}
use Rattle.am_resp_text.proofs.Cuts.{numeral-no_cr}
use Rattle.am_resp_text.proofs.Cuts.{same_numeral}

differ : (a b : ℕ) (x y : List ℕ) → eqb a b ≡ false → a ∷ x ≡ b ∷ y → ⊥
differ a b x y f e = let h : a ≡ b = (same_head a b x y e).0 in grind (arith, nat_tests, f, h)

-- a short line
cut_line : (a b x y : List ℕ) → HasNoCr a → HasNoCr b → (a ++ crlf) ++ x ≡ (b ++ crlf) ++ y → (a ≡ b) × (x ≡ y)
cut_line a b x y f h e =
    let both = sym (append_assoc a crlf x) ∙ e ∙ append_assoc b crlf y in
    let cut = cut_at_cr a b (10 ∷ x) (10 ∷ y) f h both in
    (cut.0, (same_head 10 10 x y cut.1).1)

minus_one : HasNoCr (codes "-1")
minus_one = (λ e. omega (arith, e), (λ e. omega (arith, e), tt))

-- no count is -1
no_count : (mark n : ℕ) (x y : List ℕ) → count_line mark n ++ x ≡ mark ∷ (codes "-1" ++ (13 ∷ y)) → ⊥
no_count mark n x y e =
    let opened = sym (count_line-opened mark n x) ∙ e in
    let parts = same_head mark mark (numeral n ++ (13 ∷ 10 ∷ x)) (codes "-1" ++ (13 ∷ y)) opened in
    let cut = cut_at_cr (numeral n) (codes "-1") (10 ∷ x) y (numeral-no_cr n) minus_one parts.1 in
    true≢false (sym (is_numeral-numeral n) ∙ ap is_numeral cut.0)

line_no_cr : (text : List ℕ) → HasNoLineEnd text → HasNoCr text
line_no_cr [] h = tt
line_no_cr (c ∷ text) h = (h.0.0, line_no_cr text h.1)

minus_numeral : (m n : ℕ) → codes "-" ++ numeral m ≡ numeral n → ⊥
minus_numeral m n e = false≢true (ap is_numeral e ∙ is_numeral-numeral n)

signed-no_cr : (m : ℤ) → HasNoCr (signed_numeral m)
signed-no_cr (pos n) = numeral-no_cr n
signed-no_cr (negsuc n) = ((λ e. omega (arith, e)), numeral-no_cr (n + 1))

same_signed : (m n : ℤ) → signed_numeral m ≡ signed_numeral n → m ≡ n
same_signed (pos m) (pos n) e = ap pos (same_numeral m n e)
same_signed (pos m) (negsuc n) e = absurd (minus_numeral (n + 1) m (sym e))
same_signed (negsuc m) (pos n) e = absurd (minus_numeral (m + 1) n e)
same_signed (negsuc m) (negsuc n) e =
    let same : m + 1 ≡ n + 1 = same_numeral (m + 1) (n + 1) (same_head 45 45 (numeral (m + 1)) (numeral (n + 1)) e).1 in
    ap negsuc (omega (arith, same))

pub cut_part : (p q : Part) (x y : List ℕ) → IsPlainPart p → IsPlainPart q → part_text p ++ x ≡ part_text q ++ y →
    (p ≡ q) × (x ≡ y)
cut_part (Simple a) (Simple b) x y f h e =
    let behind = (same_head 43 43 ((a ++ crlf) ++ x) ((b ++ crlf) ++ y) e).1 in
    let cut = cut_line a b x y (line_no_cr a f) (line_no_cr b h) behind in
    (ap (λ z. Simple z) cut.0, cut.1)
cut_part (Simple a) (Error b) x y f h e = absurd (differ 43 45 _ _ refl e)
cut_part (Simple a) (Integer b) x y f h e = absurd (differ 43 58 _ _ refl e)
cut_part (Simple a) (Bulk b) x y f h e = absurd (differ 43 36 _ _ refl e)
cut_part (Simple a) Nil x y f h e = absurd (differ 43 36 _ _ refl e)
cut_part (Simple a) (Array b) x y f h e = absurd (differ 43 42 _ _ refl e)
cut_part (Simple a) NilArray x y f h e = absurd (differ 43 42 _ _ refl e)
cut_part (Error a) (Simple b) x y f h e = absurd (differ 45 43 _ _ refl e)
cut_part (Error a) (Error b) x y f h e =
    let behind = (same_head 45 45 ((a ++ crlf) ++ x) ((b ++ crlf) ++ y) e).1 in
    let cut = cut_line a b x y (line_no_cr a f) (line_no_cr b h) behind in
    (ap (λ z. Error z) cut.0, cut.1)
cut_part (Error a) (Integer b) x y f h e = absurd (differ 45 58 _ _ refl e)
cut_part (Error a) (Bulk b) x y f h e = absurd (differ 45 36 _ _ refl e)
cut_part (Error a) Nil x y f h e = absurd (differ 45 36 _ _ refl e)
cut_part (Error a) (Array b) x y f h e = absurd (differ 45 42 _ _ refl e)
cut_part (Error a) NilArray x y f h e = absurd (differ 45 42 _ _ refl e)
cut_part (Integer a) (Simple b) x y f h e = absurd (differ 58 43 _ _ refl e)
cut_part (Integer a) (Error b) x y f h e = absurd (differ 58 45 _ _ refl e)
cut_part (Integer a) (Integer b) x y f h e =
    let behind = (same_head 58 58 ((signed_numeral a ++ crlf) ++ x) ((signed_numeral b ++ crlf) ++ y) e).1 in
    let cut = cut_line (signed_numeral a) (signed_numeral b) x y (signed-no_cr a) (signed-no_cr b) behind in
    (ap (λ z. Integer z) (same_signed a b cut.0), cut.1)
cut_part (Integer a) (Bulk b) x y f h e = absurd (differ 58 36 _ _ refl e)
cut_part (Integer a) Nil x y f h e = absurd (differ 58 36 _ _ refl e)
cut_part (Integer a) (Array b) x y f h e = absurd (differ 58 42 _ _ refl e)
cut_part (Integer a) NilArray x y f h e = absurd (differ 58 42 _ _ refl e)
cut_part (Bulk a) (Simple b) x y f h e = absurd (differ 36 43 _ _ refl e)
cut_part (Bulk a) (Error b) x y f h e = absurd (differ 36 45 _ _ refl e)
cut_part (Bulk a) (Integer b) x y f h e = absurd (differ 36 58 _ _ refl e)
cut_part (Bulk a) (Bulk b) x y f h e =
    let cut = cut_bytes a b x y e in
    (ap (λ z. Bulk z) cut.0, cut.1)
cut_part (Bulk a) Nil x y f h e = absurd (no_count 36 (length a) ((a ++ crlf) ++ x) (10 ∷ y)
    (sym (append_assoc (count_line 36 (length a)) (a ++ crlf) x) ∙ e))
cut_part (Bulk a) (Array b) x y f h e = absurd (differ 36 42 _ _ refl e)
cut_part (Bulk a) NilArray x y f h e = absurd (differ 36 42 _ _ refl e)
cut_part Nil (Simple b) x y f h e = absurd (differ 36 43 _ _ refl e)
cut_part Nil (Error b) x y f h e = absurd (differ 36 45 _ _ refl e)
cut_part Nil (Integer b) x y f h e = absurd (differ 36 58 _ _ refl e)
cut_part Nil (Bulk b) x y f h e = absurd (no_count 36 (length b) ((b ++ crlf) ++ y) (10 ∷ x)
    (sym (append_assoc (count_line 36 (length b)) (b ++ crlf) y) ∙ sym e))
cut_part Nil Nil x y f h e = (refl, (cut_at_length (codes "$-1" ++ crlf) (codes "$-1" ++ crlf) x y refl e).1)
cut_part Nil (Array b) x y f h e = absurd (differ 36 42 _ _ refl e)
cut_part Nil NilArray x y f h e = absurd (differ 36 42 _ _ refl e)
cut_part (Array a) (Simple b) x y f h e = absurd (differ 42 43 _ _ refl e)
cut_part (Array a) (Error b) x y f h e = absurd (differ 42 45 _ _ refl e)
cut_part (Array a) (Integer b) x y f h e = absurd (differ 42 58 _ _ refl e)
cut_part (Array a) (Bulk b) x y f h e = absurd (differ 42 36 _ _ refl e)
cut_part (Array a) Nil x y f h e = absurd (differ 42 36 _ _ refl e)
cut_part (Array a) (Array b) x y f h e =
    let cut = cut_count 42 42 a b x y e in
    (ap (λ z. Array z) cut.1, cut.2)
cut_part (Array a) NilArray x y f h e = absurd (no_count 42 a x (10 ∷ y) e)
cut_part NilArray (Simple b) x y f h e = absurd (differ 42 43 _ _ refl e)
cut_part NilArray (Error b) x y f h e = absurd (differ 42 45 _ _ refl e)
cut_part NilArray (Integer b) x y f h e = absurd (differ 42 58 _ _ refl e)
cut_part NilArray (Bulk b) x y f h e = absurd (differ 42 36 _ _ refl e)
cut_part NilArray Nil x y f h e = absurd (differ 42 36 _ _ refl e)
cut_part NilArray (Array b) x y f h e = absurd (no_count 42 b y (10 ∷ x) (sym e))
cut_part NilArray NilArray x y f h e = (refl, (cut_at_length (codes "*-1" ++ crlf) (codes "*-1" ++ crlf) x y refl e).1)

pub cut_answers : (n : ℕ) (ps qs : List Part) (x y : List ℕ) → AreAnswers n ps → AreAnswers n qs →
    parts_text ps ++ x ≡ parts_text qs ++ y → (ps ≡ qs) × (x ≡ y)
cut_answers zero [] [] x y f h e = (refl, e)
cut_answers zero [] (q ∷ qs) x y f h e = absurd h
cut_answers zero (p ∷ ps) qs x y f h e = absurd f
cut_answers (suc n) [] qs x y f h e = absurd f
cut_answers (suc n) (p ∷ ps) [] x y f h e = absurd h
cut_answers (suc n) (p ∷ ps) (q ∷ qs) x y f h e =
    let both = sym (append_assoc (part_text p) (parts_text ps) x) ∙ e ∙ append_assoc (part_text q) (parts_text qs) y in
    let first = cut_part p q (parts_text ps ++ x) (parts_text qs ++ y) f.0 h.0 both in
    let due = subst (λ (part : Part). AreAnswers (answers_inside part + n) qs) (sym first.0) h.1 in
    let rest = cut_answers (answers_inside p + n) ps qs x y f.1 due first.1 in
    (ap (λ z. z ∷ ps) first.0 ∙ ap (λ z. q ∷ z) rest.0, rest.1)

-- answers behind answers
answers-append : (n : ℕ) (ps qs : List Part) (m : ℕ) → AreAnswers n ps → AreAnswers m qs → AreAnswers (n + m) (ps ++ qs)
answers-append zero [] qs m f h = subst (λ (k : ℕ). AreAnswers k qs) (omega arith) h
answers-append zero (p ∷ ps) qs m f h = absurd f
answers-append (suc n) [] qs m f h = absurd f
answers-append (suc n) (p ∷ ps) qs m f h =
    let inside : (answers_inside p + n) + m ≡ answers_inside p + (n + m) = omega arith in
    let more : suc (n + m) ≡ suc n + m = omega arith in
    subst (λ (k : ℕ). AreAnswers k (p ∷ (ps ++ qs))) more
    (f.0, subst (λ (k : ℕ). AreAnswers k (ps ++ qs)) inside (answers-append (answers_inside p + n) ps qs m f.1 h))

pub answers_in_array : (answers : List (List Part)) → AllByRecursion (λ answer. AreAnswers 1 answer) answers →
    AreAnswers (length answers + 0) (flat_map (λ answer. answer) answers)
answers_in_array [] h = tt
answers_in_array (answer ∷ answers) h =
    let all : 1 + (length answers + 0) ≡ length (answer ∷ answers) + 0 = omega arith in
    subst (λ (k : ℕ). AreAnswers k (answer ++ flat_map (λ answer. answer) answers)) all
    (answers-append 1 answer (flat_map (λ answer. answer) answers) (length answers + 0) h.0
    (answers_in_array answers h.1))

pub plain_parts : (n : ℕ) (ps : List Part) → AreAnswers n ps → AllByRecursion IsPlainPart ps
plain_parts n [] f = tt
plain_parts zero (p ∷ ps) f = absurd f
plain_parts (suc n) (p ∷ ps) f = (f.0, plain_parts (answers_inside p + n) ps f.1)
