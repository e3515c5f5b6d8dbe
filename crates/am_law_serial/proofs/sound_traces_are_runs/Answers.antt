use Rattle.am_law_serial.proofs.Sound.{sound_is_run}
use Rattle.am_law_serial.proofs.sound_traces_are_runs.Goals as goal

pub returns : goal.returns
returns c = sound_is_run
