use Rattle.am_audit.proofs.Faulty.{not_legal, one_first_fault}
use Rattle.am_audit.proofs.exclusion.first_faults_exclude.Goals as goal

pub returns : goal.returns
returns c = record {
  legal = λ most_runs. not_legal most_runs (c.formed_traces_follow.ensures most_runs);
  one = λ most_runs. one_first_fault most_runs (c.formed_traces_follow.ensures most_runs);
}
