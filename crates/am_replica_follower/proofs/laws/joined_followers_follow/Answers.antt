use Rattle.am_replica_follower.proofs.Joining.{joined, agrees}
use Rattle.am_replica_follower.proofs.laws.joined_followers_follow.Goals as goal

pub returns : goal.returns
returns c = record {
  follows = λ digest start history log known at joins. joined digest start known at history log joins;
  known = λ digest start history log known at joins. joins.up_to;
  agree = λ digest start history log other known at at' joins follows.
      agrees digest start known at history log other at' joins follows;
}
