-- The first lines of texts: each header has one, and no line is that of two.
use Rattle.std.proofs.Common.{◌≡◌, ◌≢◌, ℕ, ◌<◌, ◌^◌, eqb, true, List, [], ◌∷◌, ◌++◌, Option, Some, None, refl, sym}
use Rattle.std.proofs.Common.{ap, ◌∙◌, subst, arith, get_or, drop, option_map, decimal, append_assoc}
use Rattle.std.specs.Prelude.{codes, option_and_then, if◌then◌else◌}
use Rattle.std.specs.Option.{option_zip}
use Rattle.std.specs.List.{join_with_byte}
use Rattle.std.proofs.lemmas.Bool.{cond-true}
use Rattle.std.proofs.lemmas.Bool.Decides.{nat_tests}
use Rattle.am_record.proofs.Outcomes.{gate}
use Rattle.am_line_text.specs.Fields.{line_fields}
use Rattle.am_trace_text.specs.Cuts.{has_no}
use Rattle.am_trace_text.specs.FieldReadings.{number_in, run_in}
use Rattle.am_trace_text.specs.Headers.{can_be_given, IsHeader, limit_fields, header_words, limits_of, limits_for}
use Rattle.am_trace_text.specs.Headers.{two_numbers_in, limits_in}
use Rattle.am_trace_text.specs.Lines.{header_line, BeginsNoHeader}
use Rattle.am_trace_text.specs.declared.version.Version.{Version}
use Rattle.am_trace_text.specs.declared.version.Version.TheVariants.{One, Two, Three}
use Rattle.am_trace_text.specs.declared.store_limits.StoreLimits.{StoreLimits}
use Rattle.am_trace_text.specs.declared.header.Header.{Header}
use Rattle.am_trace_text.specs.declared.header.Header.TheVariants.{Profile, Limits}
use Rattle.am_trace_text.proofs.CutLemmas.{has_no-append, one_cut, not_there}
use Rattle.am_trace_text.proofs.IsText.{IsText, zipped, zip_of, chained, same_some}
use Rattle.am_trace_text.proofs.FieldTexts.{IsNoDigit, AllHaveNo, NumberLaws, no_in_decimal, number_text, run_text}
use Rattle.am_trace_text.proofs.EventTexts.{LineLaws, join_none, parted_by}

-- ---- five numbers

-- limits that can be given are small
record AreSmall (l : StoreLimits) : Type 0 where
  pub runs : l.runs < 2 ^ 32
  pub key_bytes : l.key_bytes < 2 ^ 64
  pub value_bytes : l.value_bytes < 2 ^ 64
  pub locks : l.locks < 2 ^ 64
  pub operations : l.operations < 2 ^ 64

small : (l : StoreLimits) → can_be_given l ≡ true → AreSmall l
small l h = record {
  runs = grind (arith, nat_tests, h);
  key_bytes = grind (arith, nat_tests, h);
  value_bytes = grind (arith, nat_tests, h);
  locks = grind (arith, nat_tests, h);
  operations = grind (arith, nat_tests, h);
}

module _ (laws : NumberLaws) where
  two_there : (m n : ℕ) → m < 2 ^ 64 → n < 2 ^ 64 → two_numbers_in (decimal m) (decimal n) ≡ Some (m, n)
  two_there m n h k = zip_of (number_in (decimal m)) (number_in (decimal n)) m n ((number_text laws).there m h)
      ((number_text laws).there n k)

  two_back : (f g : List ℕ) (p : ℕ × ℕ) → two_numbers_in f g ≡ Some p → (f ≡ decimal p.0) × (g ≡ decimal p.1)
  two_back f g p e =
      let z = zipped (number_in f) (number_in g) p e in
      (((number_text laws).back f p.0 z.0).1, ((number_text laws).back g p.1 z.1).1)

  limits_there : (l : StoreLimits) → can_be_given l ≡ true → limits_in (limit_fields l) ≡ Some l
  limits_there l h =
      let few = small l h in
      let bytes = two_there l.key_bytes l.value_bytes few.key_bytes few.value_bytes in
      let others = two_there l.locks l.operations few.locks few.operations in
      let four = zip_of (two_numbers_in (decimal l.key_bytes) (decimal l.value_bytes))
      (two_numbers_in (decimal l.locks) (decimal l.operations)) (l.key_bytes, l.value_bytes) (l.locks, l.operations)
      bytes others in
      let all = zip_of (run_in (decimal l.runs)) (option_zip
      (two_numbers_in (decimal l.key_bytes) (decimal l.value_bytes))
      (two_numbers_in (decimal l.locks) (decimal l.operations))) l.runs
      ((l.key_bytes, l.value_bytes), (l.locks, l.operations)) ((run_text laws).there l.runs few.runs) four in
      ap (option_and_then limits_for) all ∙ cond-true (can_be_given l) (Some l) None h

  limits_back : (fs : List (List ℕ)) (l : StoreLimits) → limits_in fs ≡ Some l → (can_be_given l ≡ true) ×
      (fs ≡ limit_fields l)
  limits_back [] l e = cc
  limits_back (r ∷ []) l e = cc
  limits_back (r ∷ k ∷ []) l e = cc
  limits_back (r ∷ k ∷ v ∷ []) l e = cc
  limits_back (r ∷ k ∷ v ∷ m ∷ []) l e = cc
  limits_back (r ∷ k ∷ v ∷ m ∷ o ∷ p ∷ fs) l e = cc
  limits_back (r ∷ k ∷ v ∷ m ∷ o ∷ []) l e =
      let four = option_zip (two_numbers_in k v) (two_numbers_in m o) in
      let read = chained limits_for (option_zip (run_in r) four) l e in
      let n = read.0 in
      let given = gate (can_be_given (limits_of n)) (Some (limits_of n)) l read.2 in
      let same : limits_of n ≡ l = same_some (limits_of n) l given.1 in
      let first = zipped (run_in r) four n read.1 in
      let second = zipped (two_numbers_in k v) (two_numbers_in m o) n.1 first.1 in
      let runs = ((run_text laws).back r n.0 first.0).1 in
      let bytes = two_back k v n.1.0 second.0 in
      let others = two_back m o n.1.1 second.1 in (
        subst (λ (x : StoreLimits). can_be_given x ≡ true) same given.0,
        (λ i. runs i ∷ bytes.0 i ∷ bytes.1 i ∷ others.0 i ∷ others.1 i ∷ []) ∙ ap limit_fields same,
      )

  pub limits_text : IsText limits_in limit_fields (λ (l : StoreLimits). can_be_given l ≡ true)
  limits_text = record { there = limits_there; back = limits_back }

  -- no number of them has a byte that is no digit
  none_in_limits : (c : ℕ) (l : StoreLimits) → IsNoDigit c → can_be_given l ≡ true → AllHaveNo c (limit_fields l)
  none_in_limits c l n h =
      let few = small l h in
      let number = no_in_decimal laws c in (
        number l.runs n (omega (arith, few.runs)),
        (
          number l.key_bytes n few.key_bytes,
          (
            number l.value_bytes n few.value_bytes,
            (number l.locks n few.locks, (number l.operations n few.operations, tt)),
          ),
        ),
      )

-- ---- words and lines

-- the version of a digit
abbrev version_by : ℕ → Version
version_by n = if eqb n 49 then One else if eqb n 50 then Two else Three

-- the header of its words, by their seventh byte
abbrev header_by : List ℕ → Option Header
header_by words = if eqb (get_or words 6 0) 52 then option_map Limits (limits_in (line_fields (drop 8 words)))
    else Some (Profile (version_by (get_or words 6 0)))

module _ (laws : LineLaws) where
  pub limits_read : (l : StoreLimits) → can_be_given l ≡ true →
      limits_in (line_fields (join_with_byte 32 (limit_fields l))) ≡ Some l
  limits_read l h =
      ap limits_in (parted_by laws (limit_fields l) (decimal l.runs) _ refl
      (none_in_limits laws.words.numbers 32 l refl h)) ∙ (limits_text laws.words.numbers).there l h

  -- what is read of a line after its first word
  pub limits_spelled : (line numbers : List ℕ) (l : StoreLimits) → line ≡ codes "TRACE 4 " ++ numbers →
      limits_in (line_fields numbers) ≡ Some l → (can_be_given l ≡ true) × (line ≡ header_words (Limits l))
  limits_spelled line numbers l is e =
      let read = (limits_text laws.words.numbers).back (line_fields numbers) l e in (
        read.0,
        is ∙ ap (λ (x : List ℕ). codes "TRACE 4 " ++ x) (sym (laws.line numbers) ∙ ap (join_with_byte 32) read.1),
      )

  pub no_limits : (line numbers : List ℕ) → line ≡ codes "TRACE 4 " ++ numbers →
      limits_in (line_fields numbers) ≡ None → (h : Header) → IsHeader h → line ≢ header_words h
  no_limits line numbers is none (Profile One) fits same =
      let differs : ◌≡◌ {A = ℕ} 52 49 = cc in absurd (omega (arith, differs))
  no_limits line numbers is none (Profile Two) fits same =
      let differs : ◌≡◌ {A = ℕ} 52 50 = cc in absurd (omega (arith, differs))
  no_limits line numbers is none (Profile Three) fits same =
      let differs : ◌≡◌ {A = ℕ} 52 51 = cc in absurd (omega (arith, differs))
  no_limits line numbers is none (Limits l) fits same =
      let numbers_are : numbers ≡ join_with_byte 32 (limit_fields l) = cc in
      let both : None ≡ Some l = sym none ∙ ap (λ (x : List ℕ). limits_in (line_fields x)) numbers_are ∙
      limits_read l fits in
      cc

  header_read : (h : Header) → IsHeader h → header_by (header_words h) ≡ Some h
  header_read (Profile One) is = refl
  header_read (Profile Two) is = refl
  header_read (Profile Three) is = refl
  header_read (Limits l) is = ap (option_map Limits) (limits_read l is)

  no_lf_in_header : (h : Header) → IsHeader h → has_no 10 (header_words h) ≡ true
  no_lf_in_header (Profile One) is = refl
  no_lf_in_header (Profile Two) is = refl
  no_lf_in_header (Profile Three) is = refl
  no_lf_in_header (Limits l) is =
      has_no-append 10 (codes "TRACE 4 ") (join_with_byte 32 (limit_fields l)) refl
      (join_none laws.words 10 refl refl (limit_fields l) refl (none_in_limits laws.words.numbers 10 l refl is))

  -- the line that a text begins with
  pub first_words : (line further : List ℕ) (h : Header) (more : List ℕ) → has_no 10 line ≡ true → IsHeader h →
      line ++ 10 ∷ further ≡ header_line h ++ more → (line ≡ header_words h) × (further ≡ more)
  first_words line further h more none is same =
      one_cut 10 line further (header_words h) more none (no_lf_in_header h is)
      (same ∙ append_assoc (header_words h) (10 ∷ []) more)

  -- the line tells the header
  pub one_header : (h k : Header) (a b : List ℕ) → IsHeader h → IsHeader k → header_line h ++ a ≡ header_line k ++ b →
      (h ≡ k) × (a ≡ b)
  one_header h k a b is fits e =
      let lines = first_words (header_words h) a k b (no_lf_in_header h is) fits
      (sym (append_assoc (header_words h) (10 ∷ []) a) ∙ e) in
      (same_some h k (sym (header_read h is) ∙ ap header_by lines.0 ∙ header_read k fits), lines.1)

  pub no_header : (line further : List ℕ) → has_no 10 line ≡ true →
      ((h : Header) → IsHeader h → line ≢ header_words h) → BeginsNoHeader (line ++ 10 ∷ further)
  no_header line further none bad = λ h more is same. bad h is (first_words line further h more none is same).0

  pub no_first_line : (text : List ℕ) → has_no 10 text ≡ true → BeginsNoHeader text
  no_first_line text none = λ h more is same. not_there 10 (header_words h) more text none
      (same ∙ append_assoc (header_words h) (10 ∷ []) more)

-- ---- as it is written

pub limits_line : (r k v m o : List ℕ) → (((((((((codes "TRACE 4 " ++ r) ++ 32 ∷ []) ++ k) ++ 32 ∷ []) ++ v) ++
    32 ∷ []) ++ m) ++ 32 ∷ []) ++ o) ++ 10 ∷ [] ≡ (codes "TRACE 4 " ++
    join_with_byte 32 (r ∷ k ∷ v ∷ m ∷ o ∷ [])) ++ 10 ∷ []
limits_line r k v m o = simp append_assoc
