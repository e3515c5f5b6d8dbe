use Rattle.am_replica.proofs.States.{one_state}
use Rattle.am_replica.proofs.laws.told_answers_are_one_states.Goals as goal

pub returns : goal.returns
returns c = one_state
