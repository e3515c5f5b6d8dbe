use Rattle.am_line_dialogue.proofs.StagedLines.{one_load, one_put}
use Rattle.am_line_dialogue.proofs.laws.staging_is_loading.Goals as goal

pub returns-clause-loads : goal.returns-clause-loads
returns-clause-loads c = one_load

pub returns-clause-puts : goal.returns-clause-puts
returns-clause-puts c = one_put
