use Rattle.am_law_effect.proofs.TakenBack.{is_taken_back, takes_back}
use Rattle.am_law_effect.proofs.laws.taking_back_is_known.Goals as goal

pub returns : goal.returns
returns c = record { known = is_taken_back; exists = takes_back }
