use Rattle.am_index.proofs.RunLaws.{run_laws}
use Rattle.am_index.proofs.laws.runs_follow.Goals as goal

pub returns : goal.returns
returns c = λ es rising. run_laws es rising
