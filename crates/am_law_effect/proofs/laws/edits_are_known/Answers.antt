use Rattle.am_law_effect.proofs.KnownEdits.{known_laws}
use Rattle.am_law_effect.proofs.laws.edits_are_known.Goals as goal

pub returns : goal.returns
returns c = known_laws
