-- What stands after the verb of a line: as texts of any size, and the values that these texts name where they are in
-- bounds.
use Rattle.std.specs.Prelude.{ℕ, ◌<◌, List, [], ◌∷◌, map, length, codes, Option, Some, option_map}
use Rattle.std.specs.Option.{option_zip}
use Rattle.std.specs.List.{AllByRecursion}
use Rattle.am_record.specs.OrderedKey.{OrderedKey}
use Rattle.am_record.specs.Interval.{Interval}
use Rattle.am_record.specs.Records.{Records}
use Rattle.am_record.specs.declared.lock.Mode.{Mode}
use Rattle.am_record.specs.declared.lock.Lock.{Lock}
use Rattle.am_line_text.specs.Numbers.{numeral, number_for}
use Rattle.am_line_text.specs.Keys.{IsKeyText, key_for}
use Rattle.am_line_text.specs.Records.{RecordText, record_field, IsRecordText, record_for}
use Rattle.am_line_text.specs.Locks.{mode_word, range_for, lock_in}
use Rattle.am_line_wire.specs.Shapes.{VerbShape, bare, one_key, one_record, one_number, range_and_number}
use Rattle.am_line_wire.specs.Shapes.{mode_and_range}
use Rattle.am_line_wire.specs.Shapes.{some_records, which_sessions}
use Rattle.am_line_wire.specs.declared.request.WhichSessions.{WhichSessions}
use Rattle.am_line_wire.specs.declared.request.WhichSessions.TheVariants.{Active, All}

-- ---- as texts

abbrev pub Arguments : VerbShape → Type 0
Arguments bare = Unit {0}
Arguments one_key = List ℕ
Arguments one_record = RecordText
Arguments one_number = ℕ
Arguments range_and_number = List ℕ × List ℕ × ℕ
Arguments mode_and_range = Mode × List ℕ × List ℕ
Arguments some_records = List RecordText
Arguments which_sessions = WhichSessions

-- the fields that say which sessions a line is about
abbrev pub sessions_fields : WhichSessions → List (List ℕ)
sessions_fields Active = []
sessions_fields All = codes "ALL" ∷ []

-- the fields of a line after its verb
abbrev pub fields_of : (shape : VerbShape) → Arguments shape → List (List ℕ)
fields_of bare a = []
fields_of one_key key = key ∷ []
fields_of one_record r = r.0 ∷ r.1 ∷ []
fields_of one_number n = numeral n ∷ []
fields_of range_and_number a = a.0 ∷ a.1 ∷ numeral a.2 ∷ []
fields_of mode_and_range a = mode_word a.0 ∷ a.1 ∷ a.2 ∷ []
fields_of some_records rs = map record_field rs
fields_of which_sessions which = sessions_fields which

-- whether the keys and values may stand in a line
abbrev pub AreProper : (shape : VerbShape) → Arguments shape → Type 0
AreProper bare a = Unit {0}
AreProper one_key key = IsKeyText key
AreProper one_record r = IsRecordText r
AreProper one_number n = Unit {0}
AreProper range_and_number a = IsKeyText a.0 × IsKeyText a.1
AreProper mode_and_range a = IsKeyText a.1 × IsKeyText a.2
AreProper some_records rs = (0 < length rs) × AllByRecursion IsRecordText rs
AreProper which_sessions which = Unit {0}

-- ---- as values

abbrev pub Values : VerbShape → Type 0
Values bare = Unit {0}
Values one_key = OrderedKey
Values one_record = OrderedKey × List ℕ
Values one_number = ℕ
Values range_and_number = Interval × ℕ
Values mode_and_range = Lock
Values some_records = Records
Values which_sessions = WhichSessions

abbrev pub records_for : List RecordText → Option Records
records_for [] = Some []
records_for (r ∷ rs) = option_map (λ (p : (OrderedKey × List ℕ) × Records). p.0 ∷ p.1)
    (option_zip (record_for r) (records_for rs))

-- the values, where all are in bounds
abbrev pub values_for : (shape : VerbShape) → Arguments shape → Option (Values shape)
values_for bare a = Some tt
values_for one_key key = key_for key
values_for one_record r = record_for r
values_for one_number n = number_for n
values_for range_and_number a = option_zip (range_for a.0 a.1) (number_for a.2)
values_for mode_and_range a = option_map (lock_in a.0) (range_for a.1 a.2)
values_for some_records rs = records_for rs
values_for which_sessions which = Some which
