-- Which version a trace needs.
use Rattle.std.specs.Prelude.{List, Bool, true, false, ◌||◌, if◌then◌else◌}
use Rattle.std.specs.List.{list_any}
use Rattle.am_record.specs.Events.{Event}
use Rattle.am_record.specs.declared.step.Op.{Op}
use Rattle.am_record.specs.declared.step.Op.TheVariants.{ScanBack, Set, DeleteRange, Put}
use Rattle.am_record.specs.declared.step.Step.{Step}
use Rattle.am_record.specs.declared.step.Step.TheVariants.{Do}
use Rattle.am_record.specs.declared.step.Reply.{Reply}
use Rattle.am_record.specs.declared.step.Reply.TheVariants.{Deleted}
use Rattle.am_trace_text.specs.declared.version.Version.{Version}
use Rattle.am_trace_text.specs.declared.version.Version.TheVariants.{Two, Three}

-- whether version 3 alone writes the operation
abbrev pub op_needs_three : Op → Bool
op_needs_three (ScanBack range max) = true
op_needs_three (Set k v) = true
op_needs_three (DeleteRange range max) = true
op_needs_three (Put records) = true
op_needs_three _ = false

abbrev pub step_needs_three : Step → Bool
step_needs_three (Do t op) = op_needs_three op
step_needs_three _ = false

abbrev pub reply_needs_three : Reply → Bool
reply_needs_three (Deleted n) = true
reply_needs_three _ = false

-- whether version 3 alone writes the step or its reply
abbrev pub needs_three : Event → Bool
needs_three e = step_needs_three e.0 || reply_needs_three e.1

-- the version in which a trace is written: the second, where that can write it
abbrev pub version_needed : List Event → Version
version_needed trace = if list_any needs_three trace then Three else Two
