-- What a call does to the reader behind a log's handle, by the contract of the reader's own call.
use Rattle.std.specs.Prelude.{◌≡◌, ℕ, ◌+◌, ◌*◌, ◌^◌, nat_eq, cond, List, [], take, drop, length}
use Rattle.std.specs.Prelude.{Option, None, Some, Result, Ok, Err}
use Rattle.am_c_steps.specs.declared.status.Status.{Status}
use Rattle.am_c_steps.specs.declared.status.Status.TheVariants as is
use Rattle.am_c_steps.specs.Statuses.{status_code}
use Rattle.am_replica_log.specs.declared.event.Name.{Name}
use Rattle.am_replica_log.specs.declared.event.Part.{Part}
use Rattle.am_replica_log.specs.declared.event.Part.TheVariants.{Piece, Head}
use Rattle.am_replica_log.specs.declared.event.Floor.{Floor}
use Rattle.am_replica_log.specs.declared.log.LogFault.{LogFault}
use Rattle.am_replica_log.specs.declared.log.LogFault.TheVariants.{NoMemory, WentBack}
use Rattle.am_replica_reader.specs.Reading.{ReaderState}
use Rattle.am_replica_reader.specs.declared.came.Came.{Came}
use Rattle.am_replica_reader.specs.declared.came.Came.TheVariants.{Nothing, Whole, PartsMissing}
use Rattle.am_c_replica.specs.declared.logs.EntryName.{EntryName}

-- ---- what is given

-- a writer, by its upper and its lower word
abbrev pub writer_given : ℕ → ℕ → ℕ
writer_given high low = high * 2 ^ 64 + low

abbrev pub name_given : EntryName → Name
name_given name = record { writer = writer_given name.writer_high name.writer_low; number = name.number }

-- a piece by its number, or the head: TVK_HEAD
abbrev pub part_given : ℕ → Part
part_given part = cond (nat_eq part 18446744073709551615) Head (Piece part)

abbrev pub floor_given : ℕ → ℕ → ℕ → ℕ → Floor
floor_given since generation high low = record {
  since = since;
  snapshot = record { generation = generation; writer = writer_given high low };
}

-- ---- what is told

abbrev pub log_fault_status : LogFault → Status
log_fault_status NoMemory = is.NoMemory
log_fault_status WentBack = is.WentBack

-- the status of a part that came to this, and of a floor
abbrev pub part_status : Result Came LogFault → Status
part_status (Ok Nothing) = is.Absent
part_status (Ok Whole) = is.Fine
part_status (Ok PartsMissing) = is.PartsMissing
part_status (Err why) = log_fault_status why

abbrev pub floor_status : Result Came LogFault → Status
floor_status (Ok came) = is.Fine
floor_status (Err why) = log_fault_status why

-- whether there is a reader
abbrev pub log_status : Option ReaderState → Status
log_status None = is.NoStore
log_status (Some r) = is.Fine

-- a reader comes where there is none, or memory is refused; where there is one, it stays
abbrev pub OpensLog : ReaderState → Option ReaderState → ℕ → Option ReaderState → Type 0
OpensLog first (Some r) told held = (told ≡ status_code is.IsOpen) × (held ≡ Some r)
OpensLog first None told (Some r) = (told ≡ status_code is.Fine) × (r ≡ first)
OpensLog first None told None = told ≡ status_code is.NoMemory

-- the call led the reader from there to here, and C is told what it came to
pub record ReadsSo (Call : ReaderState → Result Came LogFault → ReaderState → Type 0)
    (status_of : Result Came LogFault → Status) (old : ReaderState) (told : ℕ)
    (held : Option ReaderState) : Type 0 where
  pub ended : Result Came LogFault
  pub new : ReaderState
  pub calls : Call old ended new
  pub stands : held ≡ Some new
  pub tells : told ≡ status_code (status_of ended)

-- without a reader nothing is done; else it takes the call
abbrev pub ReadsLog : (ReaderState → Result Came LogFault → ReaderState → Type 0) → (Result Came LogFault → Status) →
    Option ReaderState → ℕ → Option ReaderState → Type 0
ReadsLog Call status_of None told held = (told ≡ status_code is.NoStore) × (held ≡ None)
ReadsLog Call status_of (Some r) told held = ReadsSo Call status_of r told held

-- the number is told, unless the reader is over
abbrev pub TellsNumber : Result ℕ LogFault → ℕ → ℕ → Type 0
TellsNumber (Ok number) told n = (told ≡ status_code is.Fine) × (n ≡ number)
TellsNumber (Err why) told n = (told ≡ status_code (log_fault_status why)) × (n ≡ 0)

-- the same, where there is a reader
abbrev pub TellsOfLog : (ReaderState → Result ℕ LogFault) → Option ReaderState → ℕ → ℕ → Type 0
TellsOfLog number_of (Some r) told n = TellsNumber (number_of r) told n
TellsOfLog number_of None told n = (told ≡ status_code is.NoStore) × (n ≡ 0)

-- how long the entry's text is
abbrev pub text_len : Option ReaderState → ℕ
text_len None = 0
text_len (Some r) = length r.text

-- its bytes from a place on, as many as there is room for
abbrev pub text_part : Option ReaderState → ℕ → ℕ → List ℕ
text_part None from room = []
text_part (Some r) from room = take room (drop from r.text)
