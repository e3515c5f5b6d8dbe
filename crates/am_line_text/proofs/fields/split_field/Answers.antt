use Rattle.std.proofs.Common.{sym, ◌∙◌}
use Rattle.am_line_text.proofs.Spaces.{line_fields-at, line_fields-one}
use Rattle.am_line_text.proofs.fields.split_field.Goals as goal

pub returns-in-Some : goal.returns-in-Some
returns-in-Some c = line_fields-at c.args.text.now c.in-Some.space (sym c.position_of.ensures ∙ c.in-Some.is)

pub returns-in-None : goal.returns-in-None
returns-in-None c = line_fields-one c.args.text.now (sym c.position_of.ensures ∙ c.in-None.is)
