-- Requests whose keys and values are written with visible bytes alone, so that replies that tell them are lines.
use Rattle.std.specs.List.{AllByRecursion}
use Rattle.am_record.specs.declared.step.Op.{Op}
use Rattle.am_record.specs.declared.step.Op.TheVariants.{Insert, Replace, Set, Load, Put}
use Rattle.am_line_wire.specs.Replies.{IsVisibleRow}
use Rattle.am_line_wire.specs.declared.request.Request.{Request}
use Rattle.am_line_wire.specs.declared.request.Request.TheVariants.{Do, Stage}

-- the records that the operation writes
abbrev pub WritesVisible : Op → Type 0
WritesVisible (Insert key value) = IsVisibleRow (key, value)
WritesVisible (Replace key value) = IsVisibleRow (key, value)
WritesVisible (Set key value) = IsVisibleRow (key, value)
WritesVisible (Load records) = AllByRecursion IsVisibleRow records
WritesVisible (Put records) = AllByRecursion IsVisibleRow records
WritesVisible op = Unit {0}

abbrev pub AsksVisible : Request → Type 0
AsksVisible (Do op) = WritesVisible op
AsksVisible (Stage records) = AllByRecursion IsVisibleRow records
AsksVisible request = Unit {0}
