-- The fields of a load, read one by one.
use Rattle.std.proofs.Common.{◌≡◌, ℕ, Bool, true, false, cond, List, [], ◌∷◌, ◌++◌, append_assoc, map, Option, Some}
use Rattle.std.proofs.Common.{None, option_map, Result, Ok, Err, ok_or, refl, sym, ap, ◌∙◌}
use Rattle.std.specs.Prelude.{◌&&◌}
use Rattle.std.specs.List.{list_all}
use Rattle.std.specs.Option.{option_zip}
use Rattle.am_record.specs.OrderedKey.{OrderedKey}
use Rattle.am_record.specs.Records.{Records}
use Rattle.am_line_text.specs.Records.{record_for, is_record_field, record_text}
use Rattle.am_line_wire.specs.Arguments.{records_for}
use Rattle.am_line_text.specs.declared.fault.LineFault.{LineFault}
use Rattle.am_line_text.specs.declared.fault.LineFault.TheVariants.{Syntax, Range}

pub zipped : (r : Option (OrderedKey × List ℕ)) (rs : Option Records) (all : Records) →
    option_map (λ (p : (OrderedKey × List ℕ) × Records). p.0 ∷ p.1) (option_zip r rs) ≡ Some all →
    (first : OrderedKey × List ℕ) × (rest : Records) × (r ≡ Some first) × (rs ≡ Some rest) × (all ≡ first ∷ rest)
zipped None None all e = cc
zipped None (Some rs) all e = cc
zipped (Some r) None all e = cc
zipped (Some r) (Some rs) all e = (r, rs, refl, refl, cc)

-- ---- the records so far

abbrev with_rest : Records → Option Records → Result Records LineFault
with_rest items o = ok_or (option_map (λ (rs : Records). items ++ rs) o) Range

-- what is due where these records were read, and these fields are left
abbrev pub due_with : Records → List (List ℕ) → Result Records LineFault
due_with items left = cond (list_all is_record_field left) (with_rest items (records_for (map record_text left)))
    (Err Syntax)

abbrev zip_with : Option (OrderedKey × List ℕ) → Option Records → Option Records
zip_with r o = option_map (λ (p : (OrderedKey × List ℕ) × Records). p.0 ∷ p.1) (option_zip r o)

one_more : (items : Records) (r : OrderedKey × List ℕ) (o : Option Records) → with_rest items (zip_with (Some r) o) ≡
    with_rest (items ++ r ∷ []) o
one_more items r None = refl
one_more items r (Some rs) = ap (λ l. Ok l) (sym (append_assoc items (r ∷ []) rs))

-- a field that is a record
pub due_next : (items : Records) (f : List ℕ) (fs : List (List ℕ)) (r : OrderedKey × List ℕ) →
    is_record_field f ≡ true → record_for (record_text f) ≡ Some r →
    due_with items (f ∷ fs) ≡ due_with (items ++ r ∷ [])
    fs
due_next items f fs r is here =
    ap (λ test. cond (test && list_all is_record_field fs)
    (with_rest items (zip_with (record_for (record_text f)) (records_for (map record_text fs)))) (Err Syntax)) is
    ∙ ap (λ o. cond (list_all is_record_field fs) (with_rest items (zip_with o (records_for (map record_text fs))))
    (Err Syntax)) here
    ∙ ap (λ d. cond (list_all is_record_field fs) d (Err Syntax)) (one_more items r (records_for (map record_text fs)))

abbrev Parsed : Type 0
Parsed = Option (OrderedKey × List ℕ)

-- what a field was read as
pub read_so : (test : Bool) (due : Parsed) (r : OrderedKey × List ℕ) → Ok (Some r) ≡ cond {A = Result Parsed LineFault}
    test (Ok due) (Err Syntax) → (test ≡ true) × (due ≡ Some r)
read_so true due r e = (refl, cc)
read_so false due r e = cc
