-- The lines of a session: what each form of line spells, and what it asks for.
use Rattle.std.specs.Prelude.{◌≡◌, ◌≢◌, ℕ, List, ◌∷◌, Bool, true, false, Option, Some, None, Result, Ok, Err}
use Rattle.std.specs.Prelude.{option_map}
use Rattle.std.specs.List.{join_with_byte}
use Rattle.am_record.specs.declared.step.Op.TheVariants as op
use Rattle.am_line_text.specs.Verbs.{word_of}
use Rattle.am_line_wire.specs.Shapes.{VerbShape, bare, one_key, one_record, one_number, range_and_number}
use Rattle.am_line_wire.specs.Shapes.{mode_and_range}
use Rattle.am_line_wire.specs.Shapes.{some_records, which_sessions}
use Rattle.am_line_wire.specs.Arguments.{Arguments, Values, fields_of, AreProper, values_for}
use Rattle.am_line_text.specs.declared.verb.Verb.{Verb}
use Rattle.am_line_text.specs.declared.verb.Verb.TheVariants as verb
use Rattle.am_line_wire.specs.declared.request.Request.{Request}
use Rattle.am_line_wire.specs.declared.request.Request.TheVariants.{Begin, Do, Stage, Commit, Abort, Merge, Clean, Seen}
use Rattle.am_line_wire.specs.declared.request.Request.TheVariants.{Hold, Who, End, Quit}
use Rattle.am_line_text.specs.declared.fault.LineFault.{LineFault}
use Rattle.am_line_text.specs.declared.fault.LineFault.TheVariants.{Syntax, Range, NoMemory}

-- what stands after each verb
abbrev pub verb_shape : Verb → VerbShape
verb_shape verb.Begin = bare
verb_shape verb.Get = one_key
verb_shape verb.Scan = range_and_number
verb_shape verb.ScanBack = range_and_number
verb_shape verb.Insert = one_record
verb_shape verb.Replace = one_record
verb_shape verb.Set = one_record
verb_shape verb.Delete = one_key
verb_shape verb.DeleteRange = range_and_number
verb_shape verb.Load = some_records
verb_shape verb.Put = some_records
verb_shape verb.Stage = some_records
verb_shape verb.Lock = mode_and_range
verb_shape verb.Mark = bare
verb_shape verb.Back = bare
verb_shape verb.Commit = bare
verb_shape verb.Abort = bare
verb_shape verb.Merge = one_number
verb_shape verb.Clean = range_and_number
verb_shape verb.Seen = bare
verb_shape verb.Hold = one_number
verb_shape verb.Who = which_sessions
verb_shape verb.End = one_number
verb_shape verb.Quit = bare

-- what a line may say, with numbers, keys and values of any size
pub record Form : Type 0 where
  pub verb : Verb
  pub arguments : Arguments (verb_shape verb)

-- its line, the one text of the form: the verb's word and the fields after it, parted by one space
abbrev pub spelling : Form → List ℕ
spelling form = join_with_byte 32 (word_of form.verb ∷ fields_of (verb_shape form.verb) form.arguments)

-- whether its keys and values may stand in a line
abbrev pub IsProper : Form → Type 0
IsProper form = AreProper (verb_shape form.verb) form.arguments

-- what a verb asks for with these values
abbrev pub request_with : (v : Verb) → Values (verb_shape v) → Request
request_with verb.Begin a = Begin
request_with verb.Get key = Do (op.Get key)
request_with verb.Scan a = Do (op.Scan a.0 a.1)
request_with verb.ScanBack a = Do (op.ScanBack a.0 a.1)
request_with verb.Insert r = Do (op.Insert r.0 r.1)
request_with verb.Replace r = Do (op.Replace r.0 r.1)
request_with verb.Set r = Do (op.Set r.0 r.1)
request_with verb.Delete key = Do (op.Delete key)
request_with verb.DeleteRange a = Do (op.DeleteRange a.0 a.1)
request_with verb.Load rs = Do (op.Load rs)
request_with verb.Put rs = Do (op.Put rs)
request_with verb.Stage rs = Stage rs
request_with verb.Lock lock = Do (op.Lock lock)
request_with verb.Mark a = Do op.Mark
request_with verb.Back a = Do op.Back
request_with verb.Commit a = Commit
request_with verb.Abort a = Abort
request_with verb.Merge n = Merge n
request_with verb.Clean a = Clean a.0 a.1
request_with verb.Seen a = Seen
request_with verb.Hold n = Hold n
request_with verb.Who which = Who which
request_with verb.End n = End n
request_with verb.Quit a = Quit

-- what the form asks for, where all in it is in bounds
abbrev pub request_of : Form → Option Request
request_of form = option_map (request_with form.verb) (values_for (verb_shape form.verb) form.arguments)

-- the line spells a form that is read so
abbrev pub Spells : List ℕ → Option Request → Type 0
Spells line read = (form : Form) × IsProper form × (line ≡ spelling form) × (request_of form ≡ read)

-- whether records come with it
abbrev pub brings_records : Request → Bool
brings_records (Do (op.Load records)) = true
brings_records (Do (op.Put records)) = true
brings_records (Stage records) = true
brings_records _ = false

-- What a line is read as: the request of the form that it spells, Range where that form has none, Syntax where it
-- spells none. Memory may be refused where it brings records.
abbrev pub Reads : List ℕ → Result Request LineFault → Type 0
Reads line (Ok request) = Spells line (Some request)
Reads line (Err Syntax) = (form : Form) → IsProper form → line ≢ spelling form
Reads line (Err Range) = Spells line None
Reads line (Err NoMemory) = (request : Request) × Spells line (Some request) × (brings_records request ≡ true)
