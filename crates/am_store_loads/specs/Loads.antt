-- What a load of a run answers, and what it does to the partitions.
use Rattle.std.specs.Prelude.{◌≡◌, ◌+◌, ◌==◌, ◌⊎◌, if◌then◌else◌}
use Rattle.am_record.specs.Limits.{last_run}
use Rattle.am_record.specs.Plain.{Records, insert_all, least_taken, exists_or_done}
use Rattle.am_record.specs.declared.step.Reply.{Reply}
use Rattle.am_record.specs.declared.step.Reply.TheVariants.{Done, Refused}
use Rattle.am_record.specs.declared.step.Refusal.TheVariants.{TooManyRuns, NoMemory}
use Rattle.am_index.specs.Content.{content, HasContent}
use Rattle.am_index.specs.Runs.{with_run}
use Rattle.am_index_parts.specs.Partitions.{Partitions}

-- the reply that is due, where memory is ample
abbrev pub load_due : Partitions → Records → Reply
load_due parts records = if parts.runs == last_run then Refused TooManyRuns else exists_or_done
    (least_taken records (content parts.entries))

-- the reply is the one that is due, or memory was refused where Done is due
abbrev pub IsAnswer : Reply → Reply → Type 0
IsAnswer due reply = (reply ≡ due) ⊎ ((due ≡ Done) × (reply ≡ Refused NoMemory))

-- one run more, the records all live in it, and all in the content
pub record IsLoaded (before : Partitions) (records : Records) (after : Partitions) : Type 0 where
  pub entries : after.entries ≡ with_run (before.runs + 1) records before.entries
  pub runs : after.runs ≡ before.runs + 1
  pub has : HasContent after.entries (insert_all records (content before.entries))
