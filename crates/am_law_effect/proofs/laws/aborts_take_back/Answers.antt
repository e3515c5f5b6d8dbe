use Rattle.am_law_effect.proofs.Backs.{describe_laws}
use Rattle.am_law_effect.proofs.LookBacks.{left_is}
use Rattle.am_law_effect.proofs.laws.aborts_take_back.Goals as goal

pub returns : goal.returns
returns c = record { laws = describe_laws; words = left_is }
