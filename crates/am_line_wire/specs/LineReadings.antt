-- What a line is read as, by its fields.
use Rattle.std.specs.Prelude.{◌≡◌, ◌⊎◌, ℕ, ◌&&◌, if◌then◌else◌, List, [], ◌∷◌, map, true, codes, bytes_eq, Option}
use Rattle.std.specs.Prelude.{Some, None, Result, Ok, Err, IsOk, is_some, option_map, ok_or}
use Rattle.std.specs.List.{list_all}
use Rattle.am_line_text.specs.Numbers.{is_numeral, numeral_value}
use Rattle.am_line_text.specs.Keys.{is_key_text}
use Rattle.am_line_text.specs.Fields.{line_fields}
use Rattle.am_line_text.specs.Locks.{mode_for}
use Rattle.am_line_text.specs.Verbs.{verb_for}
use Rattle.am_line_wire.specs.Shapes.{VerbShape, bare, one_key, one_record, one_number, range_and_number}
use Rattle.am_line_wire.specs.Grammar.{verb_shape, request_with, brings_records}
use Rattle.am_line_wire.specs.Shapes.{mode_and_range, some_records, which_sessions}
use Rattle.am_line_wire.specs.declared.request.WhichSessions.TheVariants.{Active, All}
use Rattle.am_line_wire.specs.Arguments.{Arguments, Values, values_for, records_for}
use Rattle.am_line_text.specs.Records.{RecordText, record_text, is_record_text, is_record_field}
use Rattle.am_line_text.specs.declared.verb.Verb.{Verb}
use Rattle.am_line_wire.specs.declared.request.Request.{Request}
use Rattle.am_line_text.specs.declared.fault.LineFault.{LineFault}
use Rattle.am_line_text.specs.declared.fault.LineFault.TheVariants.{Syntax, Range, NoMemory}

-- the records of fields
abbrev pub records_in : List (List ℕ) → Option (List RecordText)
records_in fs = if list_all is_record_field fs then Some (map record_text fs) else None

-- what the fields after a verb say, where they have its shape
abbrev pub arguments_in : (shape : VerbShape) → List (List ℕ) → Option (Arguments shape)
arguments_in bare [] = Some tt
arguments_in one_key (key ∷ []) = if is_key_text key then Some key else None
arguments_in one_record (key ∷ value ∷ []) = if is_record_text (key, value) then Some (key, value) else None
arguments_in one_number (n ∷ []) = if is_numeral n then Some (numeral_value n) else None
arguments_in range_and_number (lo ∷ hi ∷ n ∷ []) = if is_key_text lo && is_key_text hi &&
    is_numeral n then Some (lo, hi, numeral_value n) else None
arguments_in mode_and_range (mode ∷ lo ∷ hi ∷ []) = if is_key_text lo &&
    is_key_text hi then option_map (λ m. (m, lo, hi)) (mode_for mode) else None
arguments_in some_records (f ∷ fs) = records_in (f ∷ fs)
arguments_in which_sessions [] = Some Active
arguments_in which_sessions (word ∷ []) = if bytes_eq word (codes "ALL") then Some All else None
arguments_in shape fs = None

-- what texts are read as: Syntax where there are none, Range where a value is out of bounds
abbrev pub judged : {A B : Type 0} → (A → Option B) → Option A → Result B LineFault
judged values None = Err Syntax
judged values (Some texts) = ok_or (values texts) Range

-- the values of the fields after a verb
abbrev pub values_in : (shape : VerbShape) → List (List ℕ) → Result (Values shape) LineFault
values_in shape fs = judged (values_for shape) (arguments_in shape fs)

-- this is what is due, or memory was refused where it is no fault
abbrev pub MayBeRefused : {A : Type 0} → Result A LineFault → Result A LineFault → Type 0
MayBeRefused due result = (result ≡ due) ⊎ ((result ≡ Err NoMemory) × IsOk due)

-- the fault of a line that has one before these fields: one that is no record outranks it, and one out of bounds does
abbrev pub fault_behind : LineFault → List (List ℕ) → LineFault
fault_behind fault fs = if list_all is_record_field fs then
    (if is_some (records_for (map record_text fs)) then fault else Range) else Syntax

-- a function of the value, where there is one
abbrev pub map_ok : {A B E : Type 0} → (A → B) → Result A E → Result B E
map_ok f (Ok a) = Ok (f a)
map_ok f (Err e) = Err e

-- what the fields after a verb ask for
abbrev pub verb_reading : Option Verb → List (List ℕ) → Result Request LineFault
verb_reading None fs = Err Syntax
verb_reading (Some verb) fs = map_ok (request_with verb) (values_in (verb_shape verb) fs)

abbrev pub fields_reading : List (List ℕ) → Result Request LineFault
fields_reading [] = Err Syntax
fields_reading (word ∷ fs) = verb_reading (verb_for word) fs

-- what a line is read as, where memory is not refused
abbrev pub reading : List ℕ → Result Request LineFault
reading line = fields_reading (line_fields line)

-- this is what is due, or memory was refused for the records that the line brings
abbrev pub MayRead : Result Request LineFault → Result Request LineFault → Type 0
MayRead due result = (result ≡ due) ⊎ ((result ≡ Err NoMemory) ×
    ((request : Request) × (due ≡ Ok request) × (brings_records request ≡ true)))
