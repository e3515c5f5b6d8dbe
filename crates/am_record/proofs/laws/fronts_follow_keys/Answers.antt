use Rattle.am_record.proofs.Fronts.{fronts_follow}
use Rattle.am_record.proofs.laws.fronts_follow_keys.Goals as goal

pub returns : goal.returns
returns c = fronts_follow
