-- What holds a list of records: a copy of anything else takes no memory.
use Rattle.std.specs.Prelude.{Bool, true, false}
use Rattle.am_record.specs.declared.step.Op.{Op}
use Rattle.am_record.specs.declared.step.Op.TheVariants.{Load, Put}
use Rattle.am_record.specs.declared.step.Step.{Step}
use Rattle.am_record.specs.declared.step.Step.TheVariants.{Do}
use Rattle.am_record.specs.declared.step.Reply.{Reply}
use Rattle.am_record.specs.declared.step.Reply.TheVariants.{Rows}

-- an operation with records is a load or a put
abbrev pub has_pairs : Op → Bool
has_pairs (Load records) = true
has_pairs (Put records) = true
has_pairs op = false

abbrev pub step_has_pairs : Step → Bool
step_has_pairs (Do tx op) = has_pairs op
step_has_pairs step = false

-- a reply with records is a scan's
abbrev pub has_rows : Reply → Bool
has_rows (Rows rows) = true
has_rows reply = false
