use Rattle.std.proofs.Common.{sym, ap, ◌∙◌}
use Rattle.am_c_steps.specs.Lines.{text_lines}
use Rattle.am_c_steps.proofs.CutLines.{all_from}
use Rattle.am_c_steps.proofs.lines.line_from.Goals as goal

pub returns : goal.returns
returns c = (
  text_lines c.first_line.result.1.now,
  ap text_lines (sym (all_from c.args.text.now c.args.start)) ∙ c.first_line.ensures.line,
)
