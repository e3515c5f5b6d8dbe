use Rattle.am_law_effect.specs.History.{moments_since}
use Rattle.am_law_effect.proofs.Marks.{back_laws}
use Rattle.am_law_effect.proofs.LookBacks.{left_is}
use Rattle.am_law_effect.proofs.laws.backs_take_back.Goals as goal

pub returns : goal.returns
returns c = record { laws = back_laws; words = λ t a past es w. left_is t a (moments_since t past 0) es w }
