use Rattle.am_law_serial.proofs.FormedTraces.{formed_laws}
use Rattle.am_law_serial.proofs.formed_traces_follow.Goals as goal

pub returns : goal.returns
returns c = formed_laws
