use Rattle.am_index.proofs.WalkLaws.{walk_laws}
use Rattle.am_index.proofs.laws.walks_follow.Goals as goal

pub returns : goal.returns
returns c = walk_laws
