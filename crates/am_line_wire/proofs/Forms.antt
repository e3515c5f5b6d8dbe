-- The fields of a proper form spell that form and no other.
use Rattle.std.proofs.Common.{◌≡◌, ℕ, ◌<◌, Bool, true, ◌&&◌, cond, List, [], ◌∷◌, length, map, Some, None, refl, ap}
use Rattle.std.proofs.Common.{◌∙◌, sym, subst, arith, option_map}
use Rattle.std.specs.Prelude.{codes, bytes_eq}
use Rattle.std.proofs.lemmas.Slice.Eq.{bytes_eq-Decides}
use Rattle.std.specs.List.{list_all, AllByRecursion}
use Rattle.std.proofs.lemmas.Bool.{and_parts, and_from, cond_both, cond-true}
use Rattle.am_record.specs.declared.lock.Mode.{Mode}
use Rattle.am_record.specs.declared.lock.Mode.TheVariants.{Shared, Exclusive}
use Rattle.am_record.proofs.Outcomes.{gate, mapped}
use Rattle.am_line_text.specs.Numbers.{is_numeral, numeral, numeral_value}
use Rattle.am_line_text.specs.Keys.{is_key_text}
use Rattle.am_line_wire.specs.Shapes.{VerbShape, bare, one_key, one_record, one_number, range_and_number}
use Rattle.am_line_wire.specs.Shapes.{mode_and_range}
use Rattle.am_line_wire.specs.Shapes.{some_records, which_sessions}
use Rattle.am_line_wire.specs.declared.request.WhichSessions.TheVariants as which
use Rattle.am_line_wire.specs.Arguments.{Arguments, fields_of, AreProper}
use Rattle.am_line_text.specs.Records.{RecordText, is_record_text, is_record_field, record_text}
use Rattle.am_line_text.specs.Locks.{mode_word, mode_for}
use Rattle.am_line_wire.specs.LineReadings.{arguments_in}
use Rattle.am_line_text.specs.Fields.{has_no_space}
use Rattle.am_line_text.proofs.Keys.{is_key_text-Decides, IsKeyText-no_space}
use Rattle.am_line_text.proofs.Values.{IsValueText-no_space}
use Rattle.am_line_text.proofs.Modes.{mode_for-mode_word, mode_word-mode_for}
use Rattle.am_line_text.proofs.Numerals.{numeral-numeral_value, numeral_value-numeral, is_numeral-numeral}
use Rattle.am_line_text.proofs.Numerals.{numeral-no_space}
use Rattle.am_line_text.proofs.Records.{is_record_text-proper, proper-is_record_text, are_proper, proper_fields}
use Rattle.am_line_text.proofs.Records.{map_record_field-record_text, map_record_text-record_field}
use Rattle.am_line_text.proofs.Records.{record_fields-no_space}

-- ---- from arguments to fields and back

records_back : (rs : List RecordText) → 0 < length rs → AllByRecursion (λ r. AreProper one_record r) rs →
    arguments_in some_records (fields_of some_records rs) ≡ Some rs
records_back [] some h = absurd (omega arith)
records_back (r ∷ rs) some h =
    cond-true (list_all is_record_field (fields_of some_records (r ∷ rs)))
    (Some (map record_text (fields_of some_records (r ∷ rs)))) None (proper_fields (r ∷ rs) h)
    ∙ ap (λ all. Some all) (map_record_text-record_field (r ∷ rs) h)

-- the fields of proper arguments are read as these
pub arguments_in-fields_of : (shape : VerbShape) (a : Arguments shape) → AreProper shape a →
    arguments_in shape (fields_of shape a) ≡ Some a
arguments_in-fields_of bare a h = refl
arguments_in-fields_of one_key a h = cond-true (is_key_text a) (Some a) None ((is_key_text-Decides a).1 h)
arguments_in-fields_of one_record a h = cond-true (is_record_text a) (Some a) None (proper-is_record_text a h)
arguments_in-fields_of one_number a h = cond-true (is_numeral (numeral a)) (Some (numeral_value (numeral a))) None
    (is_numeral-numeral a) ∙ ap (λ n. Some n) (numeral_value-numeral a)
arguments_in-fields_of range_and_number a h =
    let ends = and_from (is_key_text a.0) (is_key_text a.1) ((is_key_text-Decides a.0).1 h.0)
    ((is_key_text-Decides a.1).1 h.1) in
    let all = and_from (is_key_text a.0 && is_key_text a.1) (is_numeral (numeral a.2)) ends (is_numeral-numeral a.2) in
    cond-true (is_key_text a.0 && is_key_text a.1 && is_numeral (numeral a.2))
    (Some (a.0, a.1, numeral_value (numeral a.2))) None all
    ∙ ap (λ (n : ℕ). Some (a.0, a.1, n)) (numeral_value-numeral a.2)
arguments_in-fields_of mode_and_range a h =
    let ends = and_from (is_key_text a.1) (is_key_text a.2) ((is_key_text-Decides a.1).1 h.0)
    ((is_key_text-Decides a.2).1 h.1) in
    cond-true (is_key_text a.1 && is_key_text a.2) (option_map (λ (m : Mode). (m, a.1, a.2)) (mode_for (mode_word a.0)))
    None ends
    ∙ ap (option_map (λ (m : Mode). (m, a.1, a.2))) (mode_for-mode_word a.0)
arguments_in-fields_of some_records a h = records_back a h.0 h.1
arguments_in-fields_of which_sessions which.Active h = refl
arguments_in-fields_of which_sessions which.All h = refl

-- ---- from fields to arguments and back

-- the arguments are proper, and these are their fields
abbrev pub AreOf : (shape : VerbShape) → List (List ℕ) → Arguments shape → Type 0
AreOf shape fs a = AreProper shape a × (fields_of shape a ≡ fs)

-- what is found under a test
found : {A : Type 0} (P : A → Type 0) (test : Bool) (here a : A) → (test ≡ true → P here) →
    cond test (Some here) None ≡ Some a → P a
found P test here a h = cond_both test (Some here) None (λ o. o ≡ Some a → P a)
    (λ t e. let same : here ≡ a = cc in subst P same (h t))
    (λ _ e. cc)

range_and_number_of : (lo hi n : List ℕ) → (is_key_text lo && is_key_text hi && is_numeral n) ≡ true →
    AreOf range_and_number (lo ∷ hi ∷ n ∷ []) (lo, hi, numeral_value n)
range_and_number_of lo hi n h =
    let all = and_parts (is_key_text lo && is_key_text hi) (is_numeral n) h in
    let ends = and_parts (is_key_text lo) (is_key_text hi) all.0 in (
      ((is_key_text-Decides lo).0 ends.0, (is_key_text-Decides hi).0 ends.1),
      ap (λ (m : List ℕ). lo ∷ hi ∷ m ∷ [])
          (numeral-numeral_value n all.1),
    )

mode_and_range_of : (mode lo hi : List ℕ) (m : Mode) → (is_key_text lo && is_key_text hi) ≡ true →
    mode_for mode ≡ Some m → AreOf mode_and_range (mode ∷ lo ∷ hi ∷ []) (m, lo, hi)
mode_and_range_of mode lo hi m h e =
    let ends = and_parts (is_key_text lo) (is_key_text hi) h in (
      ((is_key_text-Decides lo).0 ends.0, (is_key_text-Decides hi).0 ends.1),
      ap (λ (w : List ℕ). w ∷ lo ∷ hi ∷ [])
          (mode_word-mode_for mode m e),
    )

mode_and_range_in : (mode lo hi : List ℕ) (a : Arguments mode_and_range) →
    arguments_in mode_and_range (mode ∷ lo ∷ hi ∷ []) ≡ Some a → AreOf mode_and_range (mode ∷ lo ∷ hi ∷ []) a
mode_and_range_in mode lo hi a e =
    let in_form = gate (is_key_text lo && is_key_text hi) (option_map (λ (m : Mode). (m, lo, hi)) (mode_for mode)) a
    e in
    let named = mapped (λ (m : Mode). (m, lo, hi)) (mode_for mode) a in_form.1 in
    subst (AreOf mode_and_range (mode ∷ lo ∷ hi ∷ [])) named.2 (mode_and_range_of mode lo hi named.0 in_form.0 named.1)

-- what fields are read as is proper, and these are its fields
pub fields_of-arguments_in : (shape : VerbShape) (fs : List (List ℕ)) (a : Arguments shape) →
    arguments_in shape fs ≡ Some a → AreOf shape fs a
fields_of-arguments_in bare [] a e = (tt, refl)
fields_of-arguments_in bare (f ∷ fs) a e = cc
fields_of-arguments_in one_key [] a e = cc
fields_of-arguments_in one_key (key ∷ []) a e = found (AreOf one_key (key ∷ [])) (is_key_text key) key a
    (λ t. ((is_key_text-Decides key).0 t, refl)) e
fields_of-arguments_in one_key (key ∷ f ∷ fs) a e = cc
fields_of-arguments_in one_record [] a e = cc
fields_of-arguments_in one_record (key ∷ []) a e = cc
fields_of-arguments_in one_record (key ∷ value ∷ []) a e = found (AreOf one_record (key ∷ value ∷ []))
    (is_record_text (key, value)) (key, value) a (λ t. (is_record_text-proper (key, value) t, refl)) e
fields_of-arguments_in one_record (key ∷ value ∷ f ∷ fs) a e = cc
fields_of-arguments_in one_number [] a e = cc
fields_of-arguments_in one_number (n ∷ []) a e = found (AreOf one_number (n ∷ [])) (is_numeral n) (numeral_value n) a
    (λ t. (tt, ap (λ (m : List ℕ). m ∷ []) (numeral-numeral_value n t))) e
fields_of-arguments_in one_number (n ∷ f ∷ fs) a e = cc
fields_of-arguments_in range_and_number [] a e = cc
fields_of-arguments_in range_and_number (lo ∷ []) a e = cc
fields_of-arguments_in range_and_number (lo ∷ hi ∷ []) a e = cc
fields_of-arguments_in range_and_number (lo ∷ hi ∷ n ∷ []) a e = found (AreOf range_and_number (lo ∷ hi ∷ n ∷ []))
    (is_key_text lo && is_key_text hi && is_numeral n) (lo, hi, numeral_value n) a (range_and_number_of lo hi n) e
fields_of-arguments_in range_and_number (lo ∷ hi ∷ n ∷ f ∷ fs) a e = cc
fields_of-arguments_in mode_and_range [] a e = cc
fields_of-arguments_in mode_and_range (mode ∷ []) a e = cc
fields_of-arguments_in mode_and_range (mode ∷ lo ∷ []) a e = cc
fields_of-arguments_in mode_and_range (mode ∷ lo ∷ hi ∷ []) a e = mode_and_range_in mode lo hi a e
fields_of-arguments_in mode_and_range (mode ∷ lo ∷ hi ∷ f ∷ fs) a e = cc
fields_of-arguments_in some_records [] a e = cc
fields_of-arguments_in some_records (f ∷ fs) a e =
    found (AreOf some_records (f ∷ fs)) (list_all is_record_field (f ∷ fs)) (map record_text (f ∷ fs)) a
    (λ t. ((omega arith, are_proper (f ∷ fs) t), map_record_field-record_text (f ∷ fs) t)) e
fields_of-arguments_in which_sessions [] a e =
    let same : which.Active ≡ a = cc in
    subst (AreOf which_sessions []) same (tt, refl)
fields_of-arguments_in which_sessions (word ∷ []) a e = found (AreOf which_sessions (word ∷ []))
    (bytes_eq word (codes "ALL")) which.All a
    (λ t. (tt, ap (λ (w : List ℕ). w ∷ []) (sym ((bytes_eq-Decides word (codes "ALL")).0 t)))) e
fields_of-arguments_in which_sessions (word ∷ f ∷ fs) a e = cc

-- ---- fields have no space

mode_word-no_space : (m : Mode) → has_no_space (mode_word m) ≡ true
mode_word-no_space Shared = refl
mode_word-no_space Exclusive = refl

pub fields_of-no_space : (shape : VerbShape) (a : Arguments shape) → AreProper shape a →
    AllByRecursion (λ f. has_no_space f ≡ true) (fields_of shape a)
fields_of-no_space bare a h = tt
fields_of-no_space one_key a h = (IsKeyText-no_space a h, tt)
fields_of-no_space one_record a h = (IsKeyText-no_space a.0 h.0, (IsValueText-no_space a.1 h.1, tt))
fields_of-no_space one_number a h = (numeral-no_space a, tt)
fields_of-no_space range_and_number a h = (
  IsKeyText-no_space a.0 h.0,
  (IsKeyText-no_space a.1 h.1, (numeral-no_space a.2, tt)),
)
fields_of-no_space mode_and_range a h = (
  mode_word-no_space a.0,
  (IsKeyText-no_space a.1 h.0, (IsKeyText-no_space a.2 h.1, tt)),
)
fields_of-no_space some_records a h = record_fields-no_space a h.1
fields_of-no_space which_sessions which.Active h = tt
fields_of-no_space which_sessions which.All h = (refl, tt)
