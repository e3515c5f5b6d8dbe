-- What a reply of the store is to C: a status, under the number of the header, and a number beside it.
use Rattle.std.specs.Prelude.{ℕ, Result, Ok, Err}
use Rattle.am_record.specs.declared.step.Refusal.{Refusal}
use Rattle.am_record.specs.declared.step.Refusal.TheVariants.{NoSuchTx, Busy, TooManyTx, TooManyLocks, TooManyOps}
use Rattle.am_record.specs.declared.step.Refusal.TheVariants.{TooManyRuns, NotRising, BadLimit, NoMemory, SeatFull}
use Rattle.am_record.specs.declared.step.Reply.{Reply}
use Rattle.am_record.specs.declared.step.Reply.TheVariants.{Begun, Done, Found, Absent, Rows, Exists, Missing}
use Rattle.am_record.specs.declared.step.Reply.TheVariants.{Committed, Aborted, Moved, MergeDone, Ended, Idle, Cleaned}
use Rattle.am_record.specs.declared.step.Reply.TheVariants.{Deleted, NoMark, Refused}
use Rattle.am_c_steps.specs.declared.status.Status.{Status}
use Rattle.am_c_steps.specs.declared.status.Status.TheVariants as is

abbrev pub status_code : Status → ℕ
status_code is.Fine = 0
status_code is.Absent = 1
status_code is.Exists = 2
status_code is.Busy = 3
status_code is.NoTx = 4
status_code is.NoMark = 5
status_code is.Done = 6
status_code is.Idle = 7
status_code is.Ended = 8
status_code is.TooManyTx = 9
status_code is.TooManyLocks = 10
status_code is.TooManyOps = 11
status_code is.TooManyRuns = 12
status_code is.NotRising = 13
status_code is.BadLimit = 14
status_code is.NoMemory = 15
status_code is.SeatFull = 16
status_code is.NoStore = 17
status_code is.IsOpen = 18
status_code is.BadKey = 19
status_code is.BadValue = 20
status_code is.BadRange = 21
status_code is.BadMode = 22
status_code is.Twice = 24
status_code is.BadLine = 25
status_code is.NoEntry = 26
status_code is.Staged = 27
status_code is.WentBack = 28
status_code is.PartsMissing = 29
status_code is.Unreachable = 30
status_code is.Unknown = 31

abbrev pub refusal_status : Refusal → Status
refusal_status NoSuchTx = is.NoTx
refusal_status (Busy t) = is.Busy
refusal_status TooManyTx = is.TooManyTx
refusal_status TooManyLocks = is.TooManyLocks
refusal_status TooManyOps = is.TooManyOps
refusal_status TooManyRuns = is.TooManyRuns
refusal_status NotRising = is.NotRising
refusal_status BadLimit = is.BadLimit
refusal_status NoMemory = is.NoMemory
refusal_status SeatFull = is.SeatFull

abbrev pub reply_status : Reply → Status
reply_status (Begun t) = is.Fine
reply_status Done = is.Fine
reply_status (Found v) = is.Fine
reply_status Absent = is.Absent
reply_status (Rows rows) = is.Fine
reply_status (Exists k) = is.Exists
reply_status Missing = is.Absent
reply_status (Deleted n) = is.Fine
reply_status (Committed n) = is.Fine
reply_status Aborted = is.Fine
reply_status (Moved n run) = is.Fine
reply_status MergeDone = is.Done
reply_status (Ended k t) = is.Ended
reply_status Idle = is.Idle
reply_status (Cleaned n) = is.Fine
reply_status NoMark = is.NoMark
reply_status (Refused why) = refusal_status why

-- the transaction that is in the way
abbrev pub refusal_number : Refusal → ℕ
refusal_number (Busy t) = t
refusal_number why = 0

abbrev pub number_of : Reply → ℕ
number_of (Begun t) = t
number_of (Committed n) = n
number_of (Moved n run) = n
number_of (Ended k t) = t
number_of (Cleaned n) = n
number_of (Deleted n) = n
number_of (Refused why) = refusal_number why
number_of reply = 0

-- what C is told of an answer
abbrev pub status : Result Reply Status → ℕ
status (Ok reply) = status_code (reply_status reply)
status (Err why) = status_code why

abbrev pub number : Result Reply Status → ℕ
number (Ok reply) = number_of reply
number (Err why) = 0
