use Rattle.am_index.proofs.ReadLaws.{read_laws}
use Rattle.am_index.proofs.laws.reads_follow.Goals as goal

pub returns : goal.returns
returns c = read_laws
