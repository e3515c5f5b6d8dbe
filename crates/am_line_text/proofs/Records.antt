-- Records in one field: the key ends at the first =.
use Rattle.std.proofs.Common.{◌≡◌, ℕ, ◌+◌, ◌-◌, ◌≤◌, true, false, not, cond, eqb, ltb, Some, None, List, [], ◌∷◌, ◌++◌}
use Rattle.std.proofs.Common.{length, take, drop, get_or, map, refl, sym, ap, ◌∙◌, arith, inl, inr}
use Rattle.std.specs.Char.{is_ascii_graphic}
use Rattle.std.specs.List.{list_all, position_or_len, before_first, after_first, AllByRecursion}
use Rattle.std.proofs.lemmas.Bool.{and_parts, and_from, cases_lt, cond-true, cond_both, ltb-false, false≢true}
use Rattle.std.proofs.lemmas.Grind.{common_steps}
use Rattle.std.proofs.lemmas.List.{take_all}
use Rattle.std.proofs.lemmas.Bool.Decides.{nat_tests}
use Rattle.std.proofs.Math.Seq.{take-append_seam, drop-append-add}
use Rattle.std.proofs.Math.ListN.{drop_of_length-le}
use Rattle.std.proofs.lemmas.List.Sums.{split_at_first, passes_at_first}
use Rattle.am_line_text.specs.Keys.{is_key_byte, is_key_text}
use Rattle.am_line_text.specs.Values.{is_value_text}
use Rattle.am_line_text.specs.Records.{RecordText, IsRecordText, record_field, is_equals, record_text, is_record_text}
use Rattle.am_line_text.specs.Records.{is_record_field}
use Rattle.am_line_text.proofs.Keys.{is_key_text-Decides, IsKeyText-no_space}
use Rattle.am_line_text.proofs.Values.{is_value_text-Decides, IsValueText-no_space}
use Rattle.am_line_text.specs.Fields.{has_no_space}

pub is_record_text-proper : (r : RecordText) → is_record_text r ≡ true → IsRecordText r
is_record_text-proper r h =
    let parts = and_parts (is_key_text r.0) (is_value_text r.1) h in
    ((is_key_text-Decides r.0).0 parts.0, (is_value_text-Decides r.1).0 parts.1)

pub proper-is_record_text : (r : RecordText) → IsRecordText r → is_record_text r ≡ true
proper-is_record_text r h = and_from (is_key_text r.0) (is_value_text r.1) ((is_key_text-Decides r.0).1 h.0)
    ((is_value_text-Decides r.1).1 h.1)

-- the first = of a record's field stands after its key
place : (key value : List ℕ) → list_all is_key_byte key ≡ true → position_or_len is_equals (key ++ (0x3D ∷ value)) ≡
    length key
place [] value h = refl
place (b ∷ key) value h =
    let parts = and_parts (is_key_byte b) (list_all is_key_byte key) h in
    let other : not (eqb b 0x3D) ≡ true = (and_parts (is_ascii_graphic b) (not (eqb b 0x3D)) parts.0).1 in
    let rest : position_or_len is_equals (key ++ (0x3D ∷ value)) ≡ length key = place key value parts.1 in
    cond-true (not (eqb b 0x3D)) (1 + position_or_len is_equals (key ++ (0x3D ∷ value))) 0 other ∙ omega (arith, rest)

-- the record of a proper record's field is that record
pub record_text-record_field : (r : RecordText) → IsRecordText r → record_text (record_field r) ≡ r
record_text-record_field r h =
    let bytes = and_parts (not (eqb (length r.0) 0)) (list_all is_key_byte r.0) ((is_key_text-Decides r.0).1 h.0) in
    let at = place r.0 r.1 bytes.1 in
    let key : before_first is_equals (record_field r) ≡ r.0 = ap (λ n. take n (record_field r)) at ∙
    take-append_seam r.0 (0x3D ∷ r.1) in
    let value : after_first is_equals (record_field r) ≡ r.1 = ap (λ n. drop (n + 1) (record_field r)) at ∙
    drop-append-add r.0 (0x3D ∷ r.1) 1 in
    λ i. (key i, value i)

-- and a record's field is the field of that record
pub record_field-record_text : (field : List ℕ) → is_record_field field ≡ true →
    record_field (record_text field) ≡ field
record_field-record_text field h =
    let parts = and_parts (is_key_text (before_first is_equals field)) (is_value_text (after_first is_equals field))
    h in
    elim (cases_lt (position_or_len is_equals field) (length field)) [
      | inl inside ↦
          let byte : get_or field (position_or_len is_equals field) 0 ≡ 0x3D =
          grind (arith, nat_tests, passes_at_first is_equals field 0 inside) in
          sym (split_at_first is_equals field 0 inside ∙
          ap (λ b. before_first is_equals field ++ (b ∷ after_first is_equals field)) byte)
      | inr past ↦
          let none : after_first is_equals field ≡ [] = drop_of_length-le field (omega arith) in
          let wrong : false ≡ true = sym (ap is_value_text none) ∙ parts.1 in
          absurd (false≢true wrong)
    ]

-- the same by the place of the first =
pub record_text-at : (field : List ℕ) (k : ℕ) → cond (ltb (position_or_len is_equals field) (length field))
    (Some (position_or_len is_equals field)) None ≡ Some k →
    (take k field, take (length field - (k + 1)) (drop (k + 1) field)) ≡ record_text field
record_text-at field k =
    let place = position_or_len is_equals field in
    cond_both (ltb place (length field)) (Some place) None
    (λ o. o ≡ Some k → (take k field, take (length field - (k + 1)) (drop (k + 1) field)) ≡ record_text field)
    (λ _ found.
    let same : k ≡ place = cc in
    let tail : take (length field - (k + 1)) (drop (k + 1) field) ≡ drop (k + 1) field = grind (arith, common_steps) in
    let key : take k field ≡ take place field = ap (λ n. take n field) same in
    let value : take (length field - (k + 1)) (drop (k + 1) field) ≡ drop (place + 1) field = tail ∙
    ap (λ n. drop (n + 1) field) same in
    λ i. (key i, value i))
    (λ _ found. cc)

pub record_text-none : (field : List ℕ) → cond (ltb (position_or_len is_equals field) (length field))
    (Some (position_or_len is_equals field)) None ≡ None → (field, []) ≡ record_text field
record_text-none field =
    let place = position_or_len is_equals field in
    cond_both (ltb place (length field)) (Some place) None (λ o. o ≡ None → (field, []) ≡ record_text field)
    (λ _ found. cc)
    (λ past found.
    let end : length field ≤ place = ltb-false place (length field) past in
    let key : field ≡ take place field = sym (take_all place field end) in
    let value : [] ≡ drop (place + 1) field = sym (drop_of_length-le field (omega arith)) in
    λ i. (key i, value i))

-- all fields are records, and these are they
pub map_record_field-record_text : (fields : List (List ℕ)) → list_all is_record_field fields ≡ true →
    map record_field (map record_text fields) ≡ fields
map_record_field-record_text [] h = refl
map_record_field-record_text (f ∷ fs) h =
    let parts = and_parts (is_record_field f) (list_all is_record_field fs) h in
    ap (λ g. g ∷ map record_field (map record_text fs)) (record_field-record_text f parts.0) ∙
    ap (λ gs. f ∷ gs) (map_record_field-record_text fs parts.1)

pub map_record_text-record_field : (rs : List RecordText) → AllByRecursion IsRecordText rs →
    map record_text (map record_field rs) ≡ rs
map_record_text-record_field [] h = refl
map_record_text-record_field (r ∷ rs) h = ap (λ s. s ∷ map record_text (map record_field rs))
    (record_text-record_field r h.0) ∙ ap (λ ss. r ∷ ss) (map_record_text-record_field rs h.1)

pub are_proper : (fields : List (List ℕ)) → list_all is_record_field fields ≡ true →
    AllByRecursion IsRecordText (map record_text fields)
are_proper [] h = tt
are_proper (f ∷ fs) h =
    let parts = and_parts (is_record_field f) (list_all is_record_field fs) h in
    (is_record_text-proper (record_text f) parts.0, are_proper fs parts.1)

pub proper_fields : (rs : List RecordText) → AllByRecursion IsRecordText rs →
    list_all is_record_field (map record_field rs) ≡ true
proper_fields [] h = refl
proper_fields (r ∷ rs) h = and_from (is_record_field (record_field r)) (list_all is_record_field (map record_field rs))
    (ap is_record_text (record_text-record_field r h.0) ∙ proper-is_record_text r h.0) (proper_fields rs h.1)

-- no space stands in the field of a proper record
pub record_field-no_space : (r : RecordText) → IsRecordText r → has_no_space (record_field r) ≡ true
record_field-no_space r h = joined r.0 r.1 (IsKeyText-no_space r.0 h.0) (IsValueText-no_space r.1 h.1)
  where
    joined : (key value : List ℕ) → has_no_space key ≡ true → has_no_space value ≡ true →
        has_no_space (key ++ (0x3D ∷ value)) ≡ true
    joined [] value k v = v
    joined (b ∷ key) value k v =
        let parts = and_parts (not (eqb b 32)) (has_no_space key) k in
        and_from (not (eqb b 32)) (has_no_space (key ++ (0x3D ∷ value))) parts.0 (joined key value parts.1 v)

pub record_fields-no_space : (rs : List RecordText) → AllByRecursion IsRecordText rs →
    AllByRecursion (λ f. has_no_space f ≡ true) (map record_field rs)
record_fields-no_space [] h = tt
record_fields-no_space (r ∷ rs) h = (record_field-no_space r h.0, record_fields-no_space rs h.1)
