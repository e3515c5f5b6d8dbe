use Rattle.std.proofs.Common.{sym, ◌∙◌}
use Rattle.am_line_text.proofs.Records.{record_text-at, record_text-none}
use Rattle.am_line_text.proofs.record.split_record.Goals as goal

pub returns-in-Some : goal.returns-in-Some
returns-in-Some c = record_text-at c.args.field.now c.in-Some.equals (sym c.position_of.ensures ∙ c.in-Some.is)

pub returns-in-None : goal.returns-in-None
returns-in-None c = record_text-none c.args.field.now (sym c.position_of.ensures ∙ c.in-None.is)
