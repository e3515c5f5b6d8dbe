-- What one operation of a transaction does to the partitions and to its log, once its lock is granted.
use Rattle.std.specs.Prelude.{◌≡◌, ◌+◌, length, List, ◌++◌, true}
use Rattle.am_record.specs.declared.entry.Entry.{Entry}
use Rattle.am_record.specs.declared.step.Op.{Op}
use Rattle.am_record.specs.declared.step.Reply.{Reply}
use Rattle.am_index.specs.Content.{content}
use Rattle.am_index_parts.specs.Partitions.{Partitions}
use Rattle.am_store_undo.specs.Log.{Log}
use Rattle.am_record.specs.Marks.{since_mark}
use Rattle.am_law_serial.specs.Trace.{runs_made}
use Rattle.am_law_effect.specs.Laws.{taken_back}
use Rattle.am_law_effect.specs.Operations.{changed, noted, notes_left, marks_left}
use Rattle.am_law_sound.specs.Represents.{stored_answer}
use Rattle.am_store_operations.specs.Memory.{wants_room}

-- the operation had this reply, and did with it what it does
pub record IsDone (op : Op) (reply : Reply) (parts : Partitions) (log : Log) (parts' : Partitions)
    (log' : Log) : Type 0 where
  pub said : reply ≡ stored_answer op log.marks (content parts.entries)
  pub entries : parts'.entries ≡ changed (taken_back (since_mark log.marks log.notes) parts.entries) parts.runs op
      reply parts.entries
  pub runs : parts'.runs ≡ parts.runs + runs_made (content parts.entries) op reply
  pub notes : log'.notes ≡ noted parts.runs op reply parts.entries ++ notes_left op reply log.marks log.notes
  pub marks : log'.marks ≡ marks_left op reply (length log.notes) log.marks

-- nothing was done, though the log may have got room for a note
pub record LeavesAlone (parts : Partitions) (log : Log) (parts' : Partitions) (log' : Log) : Type 0 where
  pub entries : parts'.entries ≡ parts.entries
  pub runs : parts'.runs ≡ parts.runs
  pub notes : log'.notes ≡ log.notes
  pub marks : log'.marks ≡ log.marks

-- it may want memory beside its lock's
abbrev pub MayWantRoom : Op → List Entry → Log → Type 0
MayWantRoom op es log = wants_room op es log.notes log.marks ≡ true
