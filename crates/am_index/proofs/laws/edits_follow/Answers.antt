use Rattle.am_index.proofs.EditLaws.{edit_laws}
use Rattle.am_index.proofs.laws.edits_follow.Goals as goal

pub returns : goal.returns
returns c = edit_laws
