use Rattle.am_law_serial.proofs.Sound.{sound_is_run}
use Rattle.am_law_serial.proofs.runs_are_serial.Goals as goal

pub returns : goal.returns
returns c = record {
  serial = λ most_runs trace runs. ((sound_is_run most_runs trace).1 runs).serial;
  steady = λ most_runs trace runs. ((sound_is_run most_runs trace).1 runs).steady;
}
