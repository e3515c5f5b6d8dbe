use Rattle.am_replica_follower.proofs.Following.{one_place}
use Rattle.am_replica_follower.proofs.laws.followers_agree.Goals as goal

pub returns : goal.returns
returns c digest start history log other at at' a b = one_place digest start history log other at at' a b
