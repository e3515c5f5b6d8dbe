use Rattle.am_law_serial.proofs.OneStep.{step_laws}
use Rattle.am_law_serial.proofs.steps_follow.Goals as goal

pub returns : goal.returns
returns c = step_laws
