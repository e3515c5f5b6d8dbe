-- Records as lines have them: a key and a value, in two fields or in one, k=v.
use Rattle.std.specs.Prelude.{ℕ, ◌&&◌, ◌==◌, List, ◌∷◌, ◌++◌, Bool, Option}
use Rattle.std.specs.Option.{option_zip}
use Rattle.std.specs.List.{before_first, after_first}
use Rattle.am_record.specs.OrderedKey.{OrderedKey}
use Rattle.am_line_text.specs.Keys.{IsKeyText, is_key_text, key_for}
use Rattle.am_line_text.specs.Values.{IsValueText, is_value_text, value_for}

-- the texts of a key and a value
abbrev pub RecordText : Type 0
RecordText = List ℕ × List ℕ

-- in one field: k=v
abbrev pub record_field : RecordText → List ℕ
record_field r = r.0 ++ 0x3D ∷ r.1

-- a field as a record: its key ends at the first =
abbrev pub is_equals : ℕ → Bool
is_equals byte = byte == 0x3D

abbrev pub record_text : List ℕ → RecordText
record_text field = (before_first is_equals field, after_first is_equals field)

-- whether they may stand in a line
abbrev pub IsRecordText : RecordText → Type 0
IsRecordText r = IsKeyText r.0 × IsValueText r.1

-- the same as tests
abbrev pub is_record_text : RecordText → Bool
is_record_text r = is_key_text r.0 && is_value_text r.1

abbrev pub is_record_field : List ℕ → Bool
is_record_field field = is_record_text (record_text field)

-- the record, where both are in bounds
abbrev pub record_for : RecordText → Option (OrderedKey × List ℕ)
record_for r = option_zip (key_for r.0) (value_for r.1)
